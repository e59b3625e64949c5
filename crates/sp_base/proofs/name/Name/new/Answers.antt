use Rattle.std.proofs.Common.{◌≡◌, ◌≤◌, ◌++◌, List, ℕ, drop, replicate, length, ap, ◌∙◌, arith}
use Rattle.std.proofs.Math.Seq.{drop-append_seam}
use Rattle.std.proofs.lemmas.List.{drop-replicate}
use Rattle.std.proofs.Common.{length-append, length-drop}
use Rattle.sp_base.specs.Name.{IsPadded}
use Rattle.sp_base.proofs.name.Name.new.Goals as goal

-- bytes over the front of zeros leave zeros behind them
padded : (bytes front : List ℕ) → front ≡ bytes → length bytes ≤ 31 → IsPadded (front ++ drop (length bytes) (replicate 31 0)) (length bytes)
padded bytes front e h = record {
  whole = omega (arith, ap length e, length-append front (drop (length bytes) (replicate 31 0)), length-drop {A = ℕ} (length bytes) (replicate 31 0));
  within = h;
  rest = ap (λ f. drop (length bytes) (f ++ drop (length bytes) (replicate 31 0))) e ∙ drop-append_seam bytes _ ∙ drop-replicate (length bytes) 31 0;
}

pub invariant_of-result : goal.invariant_of-result
invariant_of-result c = padded c.args.bytes.now c.copy_from_slice.new.self c.copy_from_slice.ensures.after (omega arith)
