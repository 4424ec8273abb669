-- The lemmas of efl_typing.
mod BuiltLemmas
mod ListLemmas
mod StatementLemmas
mod KindLemmas
mod BodyLemmas
