-- One place more.
use Rattle.std.proofs.Common.{◌≡◌, ℕ, ◌+◌, ◌<◌, ◌%◌, Bool, true, false, not, List, [], ◌∷◌, ◌++◌, map, refl, sym, ap, ◌∙◌, fold, inl, inr, arith, rules, length, get_or, take}
use Rattle.std.specs.Prelude.{Option, Some, None, IsSome, Err}
use Rattle.std.proofs.lemmas.List.Sums.{fold-append}
use Rattle.std.proofs.lemmas.List.Elements.{filter-append}
use Rattle.std.proofs.lemmas.List.Concat.{flat_map-append}
use Rattle.std.proofs.lemmas.List.{append-nil, map-append, take_more}
use Rattle.sp_base.specs.declared.line.Line.{Line}
use Rattle.sp_base.specs.declared.refused.Refused.{Refused}
use Rattle.sp_base.specs.declared.refused.Refused.TheVariants as refused
use Rattle.sp_base.specs.Refused.{Answers}
use Rattle.sp_stmt.specs.declared.statement.Code.{Code}
use Rattle.sp_stmt.specs.declared.statement.Code.TheVariants as code
use Rattle.sp_stmt.specs.declared.statement.Statement.{Statement}
use Rattle.sp_asm.specs.declared.refusal.AsmKind.{AsmKind}
use Rattle.sp_asm.specs.declared.refusal.AsmKind.TheVariants as kind
use Rattle.sp_asm.specs.declared.places.Places.{Places}
use Rattle.sp_asm.specs.Names.{Definition, Entries, with_definition, symbols, fixed, name_by}
use Rattle.sp_asm.specs.Assembly.{Place, definition_of, definition_by, defined_value, definitions, address_after, next_address, uses_names_above, names_above, is_duplicate, ArePlaced}
use Rattle.sp_asm.specs.Refusals.{BreaksPlace, FirstRound}
use Rattle.sp_asm.specs.code.Passes.{ArePlaces, RefusesLine}
use Rattle.sp_asm.proofs.FaultLaws.{Faults}

-- the definitions of places and one more
pub definitions_more : (places : List Place) (p : Place) → definitions (places ++ p ∷ []) ≡ definitions places ++ definition_of p
definitions_more places p = flat_map-append definition_of places (p ∷ []) ∙ ap (λ ds. definitions places ++ ds) (append-nil (definition_of p))

-- the names of definitions and more
pub symbols_more : (ds es : List Definition) → symbols (ds ++ es) ≡ fold with_definition (symbols ds) es
symbols_more ds es = fold-append with_definition [] ds es

pub names_more : (places : List Place) (p : Place) (es : Entries) → es ≡ symbols (definitions places) → fold with_definition es (definition_of p) ≡ symbols (definitions (places ++ p ∷ []))
names_more places p es is =
    ap (λ (n : Entries). fold with_definition n (definition_of p)) is ∙ sym (symbols_more (definitions places) (definition_of p)) ∙ ap symbols (sym (definitions_more places p))

pub fixed_more : (places : List Place) (p : Place) (es : Entries) → es ≡ symbols (fixed (definitions places)) → fold with_definition es (fixed (definition_of p)) ≡ symbols (fixed (definitions (places ++ p ∷ [])))
fixed_more places p es is =
    ap (λ (n : Entries). fold with_definition n (fixed (definition_of p))) is
    ∙ sym (symbols_more (fixed (definitions places)) (fixed (definition_of p)))
    ∙ ap symbols (sym (filter-append (λ (d : Definition). not d.by_set) (definitions places) (definition_of p)) ∙ ap fixed (sym (definitions_more places p)))

pub address_more : (places : List Place) (p : Place) → next_address p ≡ address_after (places ++ p ∷ [])
address_more places p = sym (fold-append (λ (address : ℕ) (q : Place). next_address q) 0 places (p ∷ []))

label_is : (label : Option (List ℕ)) (a : ℕ) (set : Bool) → (IsSome label → a < 65536) → definition_by label (a % 65536) set ≡ definition_by label a set
label_is None a set within = refl
label_is (Some name) a set within =
    let small : a < 65536 = within (search rules) in
    ap (λ (n : ℕ). definition_by (Some name) n set) (omega arith)

-- the definition of a statement that stands at an address of memory, where it has a label
pub definition_is : (c : Code) (label : Option (List ℕ)) (a value : ℕ) (set : Bool) → (IsSome label → a < 65536)
    → definition_by (name_by c label) (defined_value c (a % 65536) value) set ≡ definition_by (name_by c label) (defined_value c a value) set
definition_is (code.Equ name) label a value set within = refl
definition_is (code.Set name) label a value set within = refl
definition_is code.Nothing label a value set within = label_is label a set within
definition_is (code.Instr i) label a value set within = label_is label a set within
definition_is code.Data label a value set within = label_is label a set within
definition_is code.Space label a value set within = label_is label a set within
definition_is code.Org label a value set within = label_is label a set within
definition_is code.End label a value set within = label_is label a set within

-- places of the statements up to an index, and that of the next one
pub statements_more : (ss : List Statement) (i : ℕ) (s : Statement) (places : List Place) (p : Place) → i < length ss → s ≡ get_or ss i s
    → map (λ (q : Place). q.statement) places ≡ take i ss → p.statement ≡ s → map (λ (q : Place). q.statement) (places ++ p ∷ []) ≡ take (i + 1) ss
statements_more ss i s places p lt is so_far at =
    map-append (λ (q : Place). q.statement) places (p ∷ [])
    ∙ (λ j. so_far j ++ (at ∙ is) j ∷ [])
    ∙ sym (take_more ss i s lt)

-- a statement that has no place refuses the source
pub refuses_first : (ss below : List Statement) (places : List Place) (s : Statement) (r : Refused AsmKind) → ss ≡ map (λ (q : Place). q.statement) places ++ s ∷ below → ArePlaced places
    → RefusesLine s.line (BreaksPlace ss places s) r → Answers {A = Places} (ArePlaces ss) (FirstRound ss) (Err r)
refuses_first ss below places s refused.Memory whole placed stops = tt
refuses_first ss below places s (refused.At at kind) whole placed stops = record {
  above = places;
  broken = s;
  below = below;
  whole = whole;
  placed = placed;
  at = ap (λ (l : Line). l.0) (sym stops.0);
  breaks = stops.1;
}

-- a statement that uses names above, of which one operand has no value
pub breaks_by_fault : (all : List Statement) (places : List Place) (s : Statement) (why : AsmKind) → is_duplicate places s ≡ false → uses_names_above s.code ≡ true
    → Faults all (names_above places) (address_after places % 65536) s.operands why → BreaksPlace all places s why
breaks_by_fault all places s kind.Later apart uses h = (apart, uses, h)
breaks_by_fault all places s kind.Undefined apart uses h = (apart, uses, h)
breaks_by_fault all places s kind.ZeroDivisor apart uses h = (apart, uses, h)
breaks_by_fault all places s kind.Syntax apart uses h = absurd h
breaks_by_fault all places s kind.TooDeep apart uses h = absurd h
breaks_by_fault all places s kind.Duplicate apart uses h = absurd h
breaks_by_fault all places s kind.Range apart uses h = absurd h
breaks_by_fault all places s kind.PastEnd apart uses h = absurd h
breaks_by_fault all places s kind.Overlap apart uses h = absurd h
