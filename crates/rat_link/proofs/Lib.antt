-- The lemmas of rat_link.
pub mod LimitLemmas
pub mod ReadyLemmas
pub mod CheckLemmas
pub mod UntiedLemmas
pub mod OneFault
pub mod BriefLemmas
