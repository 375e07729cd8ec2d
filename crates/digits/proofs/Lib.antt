pub mod HexLaws
mod TextLaws
