mod Examples
pub mod RoundLaws
pub mod SignedLaws
pub mod ValueLaws
pub mod FitsLaws
pub mod OperationLaws
pub mod NegatedLaws
pub mod TermsLaws
pub mod SizedLaws
pub mod SnapLaws
pub mod NearestWhole
pub mod SnapNearest
pub mod DemandLaws
