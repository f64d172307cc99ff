-- Lemmas: proved here. They need not be read to know what is promised.
pub mod FileLaws
