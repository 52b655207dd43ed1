pub mod WordLaws
pub mod EntryLaws
pub mod CoverageLaws
pub mod SectionLaws
