mod ReplyLaws
mod RunLaws
mod ScriptLaws
mod StringLaws
