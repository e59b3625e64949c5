-- Lines, and the steps that they are.
use Rattle.std.proofs.Common.{refl, true, true≢false, pos, negsuc, ◌∷◌, [], None, sym}
use Rattle.std.specs.Prelude.{codes}
use Rattle.sp_base.specs.declared.location.Loc.TheVariants as loc
use Rattle.sp_term.specs.declared.var.Var.TheVariants as var
use Rattle.sp_term.specs.Tree.{Truth, Variable}
use Rattle.sp_fdl.specs.code.Tokens.{after_mark, after_dots}
use Rattle.sp_fdl.specs.code.Numbers.{name_number, literal, negative_literal}
use Rattle.sp_fdl.specs.code.Names.{word_of, location_named, after_underline, location_variable, memory_variable, marked_variable, variable_of}
use Rattle.sp_fdl.specs.code.Operators.{sign_operator, word_operator, operator_at}
use Rattle.sp_fdl.specs.code.Reading.{part, part_after, closed, second, joined, grouped, variable_part, plain, named, form, read_at, read_of}
use Rattle.sp_script_text.specs.Steps.{Close, UseBoth, Cut, Rewrite, Linear, Frame}
use Rattle.sp_script_text.specs.StepTexts.{IsStep}
use Rattle.sp_script_text.specs.Files.{IsIdle, IsHead, IsEnd}
use Rattle.sp_script_text.specs.Examples.{IsNoStep, IsNoHead, first_of_a}
use Rattle.sp_script_text.specs.code.Words.{after_space, trim_end, trimmed, last_word, before_last_word, more_rule_named, rule_named}
use Rattle.sp_script_text.specs.code.Arguments.{formula_of, int_of, memory_of, number_of, hypothesis_of, last_formula, last_int, last_hypothesis, next_hypothesis, next_number, two_hypotheses, after_memory, memory_and_int, named_within, is_back}
use Rattle.sp_script_text.specs.code.Stepping.{side, cases, rewrite_by, rewrite, linear, command_step, line_step}
use Rattle.sp_script_text.specs.code.Lines.{name_of_word, title_of, head_title, is_end}
use Rattle.sp_script_text.proofs.StepLemmas.{line_is, line_none}
use Rattle.sp_script_text.proofs.LineLemmas.{idle_is, idle_again, head_is, head_again, end_is, end_again}

pub hypothesis_stands : IsStep (Close 12) (codes "close h12")
unfolding read_of read_at form grouped joined second part part_after closed named plain word_of variable_part variable_of marked_variable location_variable memory_variable location_named after_underline name_number literal negative_literal operator_at sign_operator word_operator after_mark after_dots line_step command_step rule_named more_rule_named trimmed trim_end after_space last_word before_last_word side cases rewrite_by rewrite linear formula_of int_of memory_of number_of hypothesis_of last_formula last_int last_hypothesis next_hypothesis next_number two_hypotheses memory_and_int after_memory named_within is_back
hypothesis_stands = line_is (codes "close h12") (Close 12) refl

pub blanks_stands : IsStep (UseBoth 1 2) (codes " use  h1 h2 ")
unfolding read_of read_at form grouped joined second part part_after closed named plain word_of variable_part variable_of marked_variable location_variable memory_variable location_named after_underline name_number literal negative_literal operator_at sign_operator word_operator after_mark after_dots line_step command_step rule_named more_rule_named trimmed trim_end after_space last_word before_last_word side cases rewrite_by rewrite linear formula_of int_of memory_of number_of hypothesis_of last_formula last_int last_hypothesis next_hypothesis next_number two_hypotheses memory_and_int after_memory named_within is_back
blanks_stands = line_is (codes " use  h1 h2 ") (UseBoth 1 2) refl

pub back_stands : IsStep (Rewrite 1 None true) (codes "rewrite h1 back")
unfolding read_of read_at form grouped joined second part part_after closed named plain word_of variable_part variable_of marked_variable location_variable memory_variable location_named after_underline name_number literal negative_literal operator_at sign_operator word_operator after_mark after_dots line_step command_step rule_named more_rule_named trimmed trim_end after_space last_word before_last_word side cases rewrite_by rewrite linear formula_of int_of memory_of number_of hypothesis_of last_formula last_int last_hypothesis next_hypothesis next_number two_hypotheses memory_and_int after_memory named_within is_back
back_stands = line_is (codes "rewrite h1 back") (Rewrite 1 None true) refl

pub formula_stands : IsStep (Cut (Truth true)) (codes "cut true")
unfolding read_of read_at form grouped joined second part part_after closed named plain word_of variable_part variable_of marked_variable location_variable memory_variable location_named after_underline name_number literal negative_literal operator_at sign_operator word_operator after_mark after_dots line_step command_step rule_named more_rule_named trimmed trim_end after_space last_word before_last_word side cases rewrite_by rewrite linear formula_of int_of memory_of number_of hypothesis_of last_formula last_int last_hypothesis next_hypothesis next_number two_hypotheses memory_and_int after_memory named_within is_back
formula_stands = line_is (codes "cut true") (Cut (Truth true)) refl

pub numbers_stands : IsStep (Linear (pos 0) ((negsuc 0, 4) ∷ [])) (codes "linear 0 -1 h4")
unfolding read_of read_at form grouped joined second part part_after closed named plain word_of variable_part variable_of marked_variable location_variable memory_variable location_named after_underline name_number literal negative_literal operator_at sign_operator word_operator after_mark after_dots line_step command_step rule_named more_rule_named trimmed trim_end after_space last_word before_last_word side cases rewrite_by rewrite linear formula_of int_of memory_of number_of hypothesis_of last_formula last_int last_hypothesis next_hypothesis next_number two_hypotheses memory_and_int after_memory named_within is_back
numbers_stands = line_is (codes "linear 0 -1 h4") (Linear (pos 0) ((negsuc 0, 4) ∷ [])) refl

pub memory_stands : IsStep (Frame (Variable var.Mem) (Variable (var.Now loc.A))) (codes "frame mem a")
unfolding read_of read_at form grouped joined second part part_after closed named plain word_of variable_part variable_of marked_variable location_variable memory_variable location_named after_underline name_number literal negative_literal operator_at sign_operator word_operator after_mark after_dots line_step command_step rule_named more_rule_named trimmed trim_end after_space last_word before_last_word side cases rewrite_by rewrite linear formula_of int_of memory_of number_of hypothesis_of last_formula last_int last_hypothesis next_hypothesis next_number two_hypotheses memory_and_int after_memory named_within is_back
memory_stands = line_is (codes "frame mem a") (Frame (Variable var.Mem) (Variable (var.Now loc.A))) refl

pub zero_falls : IsNoStep (codes "close h0")
unfolding read_of read_at form grouped joined second part part_after closed named plain word_of variable_part variable_of marked_variable location_variable memory_variable location_named after_underline name_number literal negative_literal operator_at sign_operator word_operator after_mark after_dots line_step command_step rule_named more_rule_named trimmed trim_end after_space last_word before_last_word side cases rewrite_by rewrite linear formula_of int_of memory_of number_of hypothesis_of last_formula last_int last_hypothesis next_hypothesis next_number two_hypotheses memory_and_int after_memory named_within is_back
zero_falls = line_none (codes "close h0") refl

pub leading_falls : IsNoStep (codes "close h012")
unfolding read_of read_at form grouped joined second part part_after closed named plain word_of variable_part variable_of marked_variable location_variable memory_variable location_named after_underline name_number literal negative_literal operator_at sign_operator word_operator after_mark after_dots line_step command_step rule_named more_rule_named trimmed trim_end after_space last_word before_last_word side cases rewrite_by rewrite linear formula_of int_of memory_of number_of hypothesis_of last_formula last_int last_hypothesis next_hypothesis next_number two_hypotheses memory_and_int after_memory named_within is_back
leading_falls = line_none (codes "close h012") refl

pub upper_falls : IsNoStep (codes "Close h12")
unfolding read_of read_at form grouped joined second part part_after closed named plain word_of variable_part variable_of marked_variable location_variable memory_variable location_named after_underline name_number literal negative_literal operator_at sign_operator word_operator after_mark after_dots line_step command_step rule_named more_rule_named trimmed trim_end after_space last_word before_last_word side cases rewrite_by rewrite linear formula_of int_of memory_of number_of hypothesis_of last_formula last_int last_hypothesis next_hypothesis next_number two_hypotheses memory_and_int after_memory named_within is_back
upper_falls = line_none (codes "Close h12") refl

pub comma_falls : IsNoStep (codes "use h1,h2")
unfolding read_of read_at form grouped joined second part part_after closed named plain word_of variable_part variable_of marked_variable location_variable memory_variable location_named after_underline name_number literal negative_literal operator_at sign_operator word_operator after_mark after_dots line_step command_step rule_named more_rule_named trimmed trim_end after_space last_word before_last_word side cases rewrite_by rewrite linear formula_of int_of memory_of number_of hypothesis_of last_formula last_int last_hypothesis next_hypothesis next_number two_hypotheses memory_and_int after_memory named_within is_back
comma_falls = line_none (codes "use h1,h2") refl

pub back_first_falls : IsNoStep (codes "rewrite back h1")
unfolding read_of read_at form grouped joined second part part_after closed named plain word_of variable_part variable_of marked_variable location_variable memory_variable location_named after_underline name_number literal negative_literal operator_at sign_operator word_operator after_mark after_dots line_step command_step rule_named more_rule_named trimmed trim_end after_space last_word before_last_word side cases rewrite_by rewrite linear formula_of int_of memory_of number_of hypothesis_of last_formula last_int last_hypothesis next_hypothesis next_number two_hypotheses memory_and_int after_memory named_within is_back
back_first_falls = line_none (codes "rewrite back h1") refl

pub sort_falls : IsNoStep (codes "cut a")
unfolding read_of read_at form grouped joined second part part_after closed named plain word_of variable_part variable_of marked_variable location_variable memory_variable location_named after_underline name_number literal negative_literal operator_at sign_operator word_operator after_mark after_dots line_step command_step rule_named more_rule_named trimmed trim_end after_space last_word before_last_word side cases rewrite_by rewrite linear formula_of int_of memory_of number_of hypothesis_of last_formula last_int last_hypothesis next_hypothesis next_number two_hypotheses memory_and_int after_memory named_within is_back
sort_falls = line_none (codes "cut a") refl

pub glued_falls : IsNoStep (codes "cut(a = 0)")
unfolding read_of read_at form grouped joined second part part_after closed named plain word_of variable_part variable_of marked_variable location_variable memory_variable location_named after_underline name_number literal negative_literal operator_at sign_operator word_operator after_mark after_dots line_step command_step rule_named more_rule_named trimmed trim_end after_space last_word before_last_word side cases rewrite_by rewrite linear formula_of int_of memory_of number_of hypothesis_of last_formula last_int last_hypothesis next_hypothesis next_number two_hypotheses memory_and_int after_memory named_within is_back
glued_falls = line_none (codes "cut(a = 0)") refl

pub nameless_falls : IsNoStep (codes "linear 0 -1")
unfolding read_of read_at form grouped joined second part part_after closed named plain word_of variable_part variable_of marked_variable location_variable memory_variable location_named after_underline name_number literal negative_literal operator_at sign_operator word_operator after_mark after_dots line_step command_step rule_named more_rule_named trimmed trim_end after_space last_word before_last_word side cases rewrite_by rewrite linear formula_of int_of memory_of number_of hypothesis_of last_formula last_int last_hypothesis next_hypothesis next_number two_hypotheses memory_and_int after_memory named_within is_back
nameless_falls = line_none (codes "linear 0 -1") refl

pub memory_last_falls : IsNoStep (codes "frame a mem")
unfolding read_of read_at form grouped joined second part part_after closed named plain word_of variable_part variable_of marked_variable location_variable memory_variable location_named after_underline name_number literal negative_literal operator_at sign_operator word_operator after_mark after_dots line_step command_step rule_named more_rule_named trimmed trim_end after_space last_word before_last_word side cases rewrite_by rewrite linear formula_of int_of memory_of number_of hypothesis_of last_formula last_int last_hypothesis next_hypothesis next_number two_hypotheses memory_and_int after_memory named_within is_back
memory_last_falls = line_none (codes "frame a mem") refl

pub comment_stands : IsIdle (codes "-- x")
comment_stands = idle_is (codes "-- x") refl

pub indented_falls : IsIdle (codes " -- x") → ⊥
indented_falls h = true≢false (sym (idle_again (codes " -- x") h))

pub head_stands : IsHead first_of_a (codes "script a.1")
unfolding trimmed trim_end after_space name_of_word title_of head_title is_end name_number
head_stands = head_is (codes "script a.1") first_of_a refl

pub zero_head_falls : IsNoHead (codes "script a.0")
unfolding trimmed trim_end after_space name_of_word title_of head_title is_end name_number
zero_head_falls title h = let clash = sym (head_again (codes "script a.0") title h) in absurd cc

pub number_head_falls : IsNoHead (codes "script a")
unfolding trimmed trim_end after_space name_of_word title_of head_title is_end name_number
number_head_falls title h = let clash = sym (head_again (codes "script a") title h) in absurd cc

pub name_head_falls : IsNoHead (codes "script 1.1")
unfolding trimmed trim_end after_space name_of_word title_of head_title is_end name_number
name_head_falls title h = let clash = sym (head_again (codes "script 1.1") title h) in absurd cc

pub end_stands : IsEnd (codes "end ")
unfolding trimmed trim_end after_space name_of_word title_of head_title is_end name_number
end_stands = end_is (codes "end ") refl

pub end_falls : IsEnd (codes "ends") → ⊥
unfolding trimmed trim_end after_space name_of_word title_of head_title is_end name_number
end_falls h = true≢false (sym (end_again (codes "ends") h))
