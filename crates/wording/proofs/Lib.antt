mod KindLaws
mod RunLaws
