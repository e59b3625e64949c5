use Rattle.sp_note_lines.proofs.LineLemmas.{reads_part, part_reads, one_part}
use Rattle.sp_note_lines.proofs.laws.lines_follow_the_table.Goals as goal

pub returns : goal.returns
returns c = record {
  right = λ source tokens part. (reads_part source tokens part, part_reads source tokens part);
  one = λ source tokens part other. one_part source tokens part other;
}
