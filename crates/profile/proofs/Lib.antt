pub mod TellLaws
pub mod ProfileLaws
pub mod RaisedLaws
pub mod UpToLaws
pub mod EntryLaws
pub mod CarriedLaws
