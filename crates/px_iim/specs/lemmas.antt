-- Lemmas. Readers of the promises don't need them.
pub mod KeyLaws
pub mod GroupLaws
pub mod GatherLaws
pub mod EncodingLaws
pub mod SequenceLaws
pub mod RecordLaws
pub mod NormalLaws
pub mod BoundLaws
pub mod FaultLaws
pub mod ScanLaws
