pub mod StampLemmas
pub mod TableLemmas
pub mod FillLemmas
pub mod JoinLemmas
pub mod GatherLemmas
pub mod LabelLemmas
pub mod LinkLemmas
pub mod VerdictLemmas
