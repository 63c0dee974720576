pub mod LayingLaws
