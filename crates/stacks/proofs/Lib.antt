pub mod PlaceLaws
pub mod SettleLaws
pub mod GoingLaws
pub mod StackLaws
pub mod TogetherLaws
pub mod AskedLaws
