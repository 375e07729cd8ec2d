mod EntryLaws
pub mod FeedLaws
