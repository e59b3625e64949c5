-- The older name of CodeLemmas.
pub use Rattle.sp_isa.proofs.CodeLemmas.{decodes_codes, decodes_the_table, no_code_begins_another, nothing_decodes}
