-- What of the gathered order is proved.
pub mod GatheringLaws
