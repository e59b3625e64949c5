use Rattle.std.proofs.Common.{◌≡◌, ◌≤◌, ◌++◌, vec_len}
use Rattle.std.specs.FinMap as maps
use Rattle.sp_hex.specs.Hex.{records_of}
use Rattle.sp_hex.specs.code.Rows.{data_text, records_with}
use Rattle.sp_hex.proofs.writing.write.Given as goal

abbrev pub invariant-loop-a : goal.invariant-loop-a
invariant-loop-a l = record {
  few : vec_len l.row ≤ 16;
  text : l.out.items ++ data_text (records_with l.address l.row.items l.a-iterator) ≡ data_text (records_of (maps.entries l.image));
}
