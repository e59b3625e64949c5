pub mod LineLemmas
pub mod RefusedLineLemmas
pub mod ExpressionLemmas
