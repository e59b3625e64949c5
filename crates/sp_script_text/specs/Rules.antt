-- The names of the rules of scripts (this project's own).
use Rattle.std.specs.Prelude.{ℕ, List, codes}
use Rattle.sp_script_text.specs.declared.rule.Rule.{Rule}
use Rattle.sp_script_text.specs.declared.rule.Rule.TheVariants as rule

abbrev pub name_of : Rule → List ℕ
name_of rule.Close = codes "close"
name_of rule.Simp = codes "simp"
name_of rule.Split = codes "split"
name_of rule.Intro = codes "intro"
name_of rule.Side = codes "side"
name_of rule.Unpack = codes "unpack"
name_of rule.UseBoth = codes "use"
name_of rule.Cases = codes "cases"
name_of rule.Cut = codes "cut"
name_of rule.Fix = codes "fix"
name_of rule.At = codes "at"
name_of rule.Give = codes "give"
name_of rule.Pick = codes "pick"
name_of rule.Induct = codes "induct"
name_of rule.Rewrite = codes "rewrite"
name_of rule.Linear = codes "linear"
name_of rule.DivMod = codes "divmod"
name_of rule.Range = codes "range"
name_of rule.Read = codes "read"
name_of rule.Rom = codes "rom"
name_of rule.Frame = codes "frame"
name_of rule.Bits = codes "bits"
name_of rule.BitOf = codes "bitof"
name_of rule.Choose = codes "choose"
name_of rule.Empty = codes "empty"
name_of rule.Last = codes "last"
name_of rule.Over = codes "over"
