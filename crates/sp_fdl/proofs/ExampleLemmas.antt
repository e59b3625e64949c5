-- Small texts, and what they stand for.
use Rattle.std.proofs.Common.{refl, pos, negsuc}
use Rattle.std.specs.Prelude.{codes}
use Rattle.sp_base.specs.declared.location.Loc.TheVariants as loc
use Rattle.sp_term.specs.declared.var.Var.TheVariants as var
use Rattle.sp_term.specs.Tree.{Literal, Variable}
use Rattle.sp_fdl.specs.Examples.{Stands, StandsForNone, entry_plus_1, half, below_zero, all_are_a}
use Rattle.sp_fdl.specs.code.Tokens.{after_mark, after_dots}
use Rattle.sp_fdl.specs.code.Numbers.{name_number, literal, negative_literal}
use Rattle.sp_fdl.specs.code.Names.{word_of, location_named, after_underline, location_variable, marked_variable, variable_of, bound_number}
use Rattle.sp_fdl.specs.code.Operators.{sign_operator, word_operator, operator_at}
use Rattle.sp_fdl.specs.code.Reading.{part, part_after, closed, second, joined, grouped, bound, quantifier, variable_part, plain, named, form, read_at, read_of}
use Rattle.sp_fdl.proofs.StandsLemmas.{read_stands, none_stands}

pub blanks_stand : Stands (codes "( a~+ 1)") entry_plus_1
unfolding read_of read_at form grouped joined second part part_after closed named plain word_of variable_part variable_of marked_variable location_variable location_named after_underline name_number bound_number bound quantifier literal negative_literal operator_at sign_operator word_operator after_mark after_dots
blanks_stand = read_stands (codes "( a~+ 1)") entry_plus_1 refl

pub runs_stand : Stands (codes "(1 div 2)") half
unfolding read_of read_at form grouped joined second part part_after closed named plain word_of variable_part variable_of marked_variable location_variable location_named after_underline name_number bound_number bound quantifier literal negative_literal operator_at sign_operator word_operator after_mark after_dots
runs_stand = read_stands (codes "(1 div 2)") half refl

pub zeros_stand : Stands (codes "007") (Literal (pos 7))
unfolding read_of read_at form grouped joined second part part_after closed named plain word_of variable_part variable_of marked_variable location_variable location_named after_underline name_number bound_number bound quantifier literal negative_literal operator_at sign_operator word_operator after_mark after_dots
zeros_stand = read_stands (codes "007") (Literal (pos 7)) refl

pub numbers_stand : Stands (codes "a_1") (Variable (var.After loc.A 1))
unfolding read_of read_at form grouped joined second part part_after closed named plain word_of variable_part variable_of marked_variable location_variable location_named after_underline name_number bound_number bound quantifier literal negative_literal operator_at sign_operator word_operator after_mark after_dots
numbers_stand = read_stands (codes "a_1") (Variable (var.After loc.A 1)) refl

pub signs_stand : Stands (codes "(a--1)") below_zero
unfolding read_of read_at form grouped joined second part part_after closed named plain word_of variable_part variable_of marked_variable location_variable location_named after_underline name_number bound_number bound quantifier literal negative_literal operator_at sign_operator word_operator after_mark after_dots
signs_stand = read_stands (codes "(a--1)") below_zero refl

pub width_stands : Stands (codes "-9223372036854775808") (Literal (negsuc 9223372036854775807))
unfolding read_of read_at form grouped joined second part part_after closed named plain word_of variable_part variable_of marked_variable location_variable location_named after_underline name_number bound_number bound quantifier literal negative_literal operator_at sign_operator word_operator after_mark after_dots
width_stands = read_stands (codes "-9223372036854775808") (Literal (negsuc 9223372036854775807)) refl

pub scope_stands : Stands (codes "for_all(i1: 0..3,(i1=a))") all_are_a
unfolding read_of read_at form grouped joined second part part_after closed named plain word_of variable_part variable_of marked_variable location_variable location_named after_underline name_number bound_number bound quantifier literal negative_literal operator_at sign_operator word_operator after_mark after_dots
scope_stands = read_stands (codes "for_all(i1: 0..3,(i1=a))") all_are_a refl

pub ends_fall : StandsForNone (codes "( a~+ 1) ")
unfolding read_of read_at form grouped joined second part part_after closed named plain word_of variable_part variable_of marked_variable location_variable location_named after_underline name_number bound_number bound quantifier literal negative_literal operator_at sign_operator word_operator after_mark after_dots
ends_fall t h = none_stands (codes "( a~+ 1) ") refl t h

pub runs_fall : StandsForNone (codes "(1 div2)")
unfolding read_of read_at form grouped joined second part part_after closed named plain word_of variable_part variable_of marked_variable location_variable location_named after_underline name_number bound_number bound quantifier literal negative_literal operator_at sign_operator word_operator after_mark after_dots
runs_fall t h = none_stands (codes "(1 div2)") refl t h

pub names_fall : StandsForNone (codes "a~1")
unfolding read_of read_at form grouped joined second part part_after closed named plain word_of variable_part variable_of marked_variable location_variable location_named after_underline name_number bound_number bound quantifier literal negative_literal operator_at sign_operator word_operator after_mark after_dots
names_fall t h = none_stands (codes "a~1") refl t h

pub zeros_fall : StandsForNone (codes "a_01")
unfolding read_of read_at form grouped joined second part part_after closed named plain word_of variable_part variable_of marked_variable location_variable location_named after_underline name_number bound_number bound quantifier literal negative_literal operator_at sign_operator word_operator after_mark after_dots
zeros_fall t h = none_stands (codes "a_01") refl t h

pub signs_fall : StandsForNone (codes "(a - - 1)")
unfolding read_of read_at form grouped joined second part part_after closed named plain word_of variable_part variable_of marked_variable location_variable location_named after_underline name_number bound_number bound quantifier literal negative_literal operator_at sign_operator word_operator after_mark after_dots
signs_fall t h = none_stands (codes "(a - - 1)") refl t h

pub width_falls : StandsForNone (codes "9223372036854775808")
unfolding read_of read_at form grouped joined second part part_after closed named plain word_of variable_part variable_of marked_variable location_variable location_named after_underline name_number bound_number bound quantifier literal negative_literal operator_at sign_operator word_operator after_mark after_dots
width_falls t h = none_stands (codes "9223372036854775808") refl t h

pub sorts_fall : StandsForNone (codes "(1 + true)")
unfolding read_of read_at form grouped joined second part part_after closed named plain word_of variable_part variable_of marked_variable location_variable location_named after_underline name_number bound_number bound quantifier literal negative_literal operator_at sign_operator word_operator after_mark after_dots
sorts_fall t h = none_stands (codes "(1 + true)") refl t h

pub scope_falls : StandsForNone (codes "i1")
unfolding read_of read_at form grouped joined second part part_after closed named plain word_of variable_part variable_of marked_variable location_variable location_named after_underline name_number bound_number bound quantifier literal negative_literal operator_at sign_operator word_operator after_mark after_dots
scope_falls t h = none_stands (codes "i1") refl t h

pub ends_of_scope_fall : StandsForNone (codes "for_all(i1: 0..i1,(i1=a))")
unfolding read_of read_at form grouped joined second part part_after closed named plain word_of variable_part variable_of marked_variable location_variable location_named after_underline name_number bound_number bound quantifier literal negative_literal operator_at sign_operator word_operator after_mark after_dots
ends_of_scope_fall t h = none_stands (codes "for_all(i1: 0..i1,(i1=a))") refl t h
