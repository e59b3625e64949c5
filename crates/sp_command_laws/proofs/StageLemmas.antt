-- The first stage that refuses.
use Rattle.std.proofs.Common.{List, [], ◌∷◌, ◌++◌, Result, Ok, Err, codes, refl, inl, inr, lit≤}
use Rattle.std.specs.FinMap as maps
use Rattle.std.specs.List.{IsDistinct}
use Rattle.sp_base.specs.Cells.{placed}
use Rattle.sp_base.specs.Lines.{rows_of}
use Rattle.sp_base.specs.declared.refused.Refused.TheVariants as refused
use Rattle.sp_lex.specs.declared.refusal.TextKind.TheVariants.{OpenQuote}
use Rattle.sp_lex.specs.declared.token.SourceLine.{SourceLine}
use Rattle.sp_lex.specs.Numbers.{number_of}
use Rattle.sp_lex.specs.Pieces.{tokens_from}
use Rattle.sp_lex.specs.Reading.{AreLines, IsFaultAt}
use Rattle.sp_lex.specs.code.Lines.{Fault, line_at, lines_from, lines_of}
use Rattle.sp_lex.specs.code.Pieces.{cuts, piece_at, fault_of, text_rest, symbol_len}
use Rattle.sp_lex.proofs.SourceLemmas.{fault_found, lines_found}
use Rattle.sp_words.specs.code.Tables.{mnemonic_named}
use Rattle.sp_stmt.specs.declared.refusal.StatementKind.TheVariants as unread
use Rattle.sp_stmt.specs.Tokens.{mnemonic_at, name_at}
use Rattle.sp_stmt.specs.code.Reading.{coded, statement_of, statements_from}
use Rattle.sp_stmt.proofs.SourceLemmas.{from_ok, right_by}
use Rattle.sp_asm.specs.declared.refusal.AsmKind.TheVariants.{Syntax}
use Rattle.sp_asm.specs.Assembly.{IsPlaced, IsRow, places_of}
use Rattle.sp_asm.specs.Source.{HasAssembly, IsRefused}
use Rattle.sp_asm.proofs.SplitLaws.{splits_empty}
use Rattle.sp_hex.specs.declared.refusal.HexKind.TheVariants as hex
use Rattle.sp_hex.specs.Hex.{StandsFor, bytes_of}
use Rattle.sp_hex.specs.Refusals.{IsCause}
use Rattle.sp_hex.specs.code.Reading.{content_of, held_at, record_at, empty_from, reading}
use Rattle.sp_hex.proofs.TextLaws.{cause_by, stands_by}
use Rattle.sp_check.specs.Refusals.{BreaksUnit}
use Rattle.sp_check.specs.declared.refusal.CheckKind.TheVariants as kind
use Rattle.sp_unit.specs.declared.refusal.UnitKind.TheVariants.{NoStack}
use Rattle.sp_command_laws.specs.Commands.{OrderRefusals}

-- the lines of a source, where it has lines
abbrev lines_in : Result (List SourceLine) Fault → List SourceLine
lines_in (Ok lines) = lines
lines_in (Err fault) = []

open_quote : IsFaultAt (codes "'") 1 OpenQuote
unfolding rows_of lines_from line_at cuts piece_at fault_of text_rest symbol_len number_of tokens_from
open_quote = fault_found (codes "'") 1 OpenQuote refl

later_quote : IsFaultAt (codes "5" ++ 10 ∷ codes "'") 2 OpenQuote
unfolding rows_of lines_from line_at cuts piece_at fault_of text_rest symbol_len number_of tokens_from
later_quote = fault_found (codes "5" ++ 10 ∷ codes "'") 2 OpenQuote refl

number_line : AreLines (codes "5") (lines_in (lines_of (codes "5")))
unfolding rows_of lines_from line_at cuts piece_at fault_of text_rest symbol_len number_of tokens_from
number_line = lines_found (codes "5") (lines_in (lines_of (codes "5"))) refl

no_statement : IsRefused (codes "5") 1 Syntax
unfolding rows_of lines_from line_at cuts piece_at fault_of text_rest symbol_len number_of tokens_from statements_from statement_of coded
    mnemonic_at mnemonic_named name_at
no_statement = record {
  lines = lines_in (lines_of (codes "5"));
  read = number_line;
  cause = right_by (codes "5") (lines_in (lines_of (codes "5"))) (Err (refused.At (record { 0 = 1 }) unread.Syntax)) refl;
}

no_lines : AreLines [] []
unfolding rows_of lines_from
no_lines = lines_found [] [] refl

empty_assembly : HasAssembly [] []
unfolding statements_from IsDistinct
empty_assembly = record {
  lines = [];
  read = no_lines;
  assembles = (
    [],
    from_ok [] 1 [] [] refl,
    record {
      whole = refl;
      places = splits_empty IsPlaced;
      each = splits_empty (λ above r. IsRow [] (places_of above) r);
      apart = tt;
    },
  );
}

-- an empty source has no `stack` line
no_stack : BreaksUnit [] 0 NoStack
unfolding empty_assembly
no_stack = record {
  rows = [];
  notes = [];
  read = record { lines = empty_assembly.lines; read = empty_assembly.read; assembles = empty_assembly.assembles; annotated = refl };
  cause = inl (refl, refl, refl);
}

no_end : IsCause [] 0 hex.NoEnd
unfolding reading record_at held_at content_of bytes_of empty_from rows_of placed
no_end = cause_by [] 0 hex.NoEnd refl

end_alone : StandsFor (codes ":00000001FF") maps.empty
unfolding reading record_at held_at content_of bytes_of empty_from rows_of placed
end_alone = stands_by (codes ":00000001FF") maps.empty refl

pub order_refusals : OrderRefusals
order_refusals = record {
  source_first = inl (inl (refl, refl));
  scripts_next = inr ((codes "'", refl, lit≤ tt), inl (inl (refl, refl)));
  text = inr ((codes "'", refl, lit≤ tt), inl (codes "'", record { 0 = 1 }, OpenQuote, refl, refl, open_quote));
  text_before_statements =
      inr (
        (codes "5" ++ 10 ∷ codes "'", refl, lit≤ tt),
        inl (codes "5" ++ 10 ∷ codes "'", record { 0 = 2 }, OpenQuote, refl, refl, later_quote),
      );
  statements =
      inr (
        (codes "5", refl, lit≤ tt),
        inr (
          (codes "5", lines_in (lines_of (codes "5")), refl, number_line),
          inl (codes "5", record { 0 = 1 }, Syntax, refl, refl, no_statement),
        ),
      );
  assembled = (([], refl, lit≤ tt), (([], [], refl, no_lines), (([], [], refl, empty_assembly), tt)));
  records = inr (([], refl, lit≤ tt), inl ([], record { 0 = 0 }, hex.NoEnd, refl, refl, no_end));
  checked_text = inr ((codes "'", refl, lit≤ tt), inl (codes "'", record { 0 = 1 }, kind.Text OpenQuote, refl, refl, open_quote));
  checked_unit = inr (([], refl, lit≤ tt), inl ([], record { 0 = 0 }, kind.Unit NoStack, refl, refl, no_stack));
  loaded = ((codes ":00000001FF", refl, lit≤ tt), ((codes ":00000001FF", maps.empty, refl, end_alone), tt));
}
