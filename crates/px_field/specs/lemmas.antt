-- Lemmas. Readers of the promises don't need them.
pub mod FormLaws
pub mod PieceLaws
pub mod ElementLaws
pub mod ValueLaws
