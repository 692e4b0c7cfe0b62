pub mod ExprLemmas
