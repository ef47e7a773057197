-- What a statement means over what it sees: the answer, the rows that it removes and adds, or its refusal.
pub mod Outcome
pub mod Staged
pub mod StagedRows
