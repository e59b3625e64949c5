-- The instructions of a source's routines: each instruction of its statements, once.
use Rattle.std.proofs.Common.{◌≡◌, ◌≢◌, ℕ, ◌+◌, ◌<◌, Bool, true, false, cond, not, ◌&&◌, List, [], ◌∷◌, ◌++◌, length, map, Option, Some, None, refl, sym, ap, subst, ◌∙◌, arith, append_assoc}
use Rattle.std.specs.Prelude.{All, AllPairs, filter, flat_map, unwrap_or}
use Rattle.std.specs.Option.{option_map}
use Rattle.std.specs.List.{AllZip, filter_map, list_any}
use Rattle.std.proofs.lemmas.List.Elements.{All-from_recursion}
use Rattle.sp_base.specs.Image.{ImageMap}
use Rattle.sp_isa.specs.declared.instr.Instr.{Instr}
use Rattle.sp_isa.specs.Code.{code}
use Rattle.sp_asm.specs.declared.listing.Item.{Item}
use Rattle.sp_asm.specs.declared.listing.ItemKind.{ItemKind}
use Rattle.sp_asm.specs.declared.listing.ItemKind.TheVariants as kind
use Rattle.sp_asm.specs.Items.{HoldsItems}
use Rattle.sp_asm.specs.declared.listing.Listing.{Listing}
use Rattle.sp_asm.proofs.ListingLemmas.{codes_apart, holds_items}
use Rattle.sp_note.specs.Parts as parts
use Rattle.sp_note.specs.declared.part.NoteLine as declared
use Rattle.sp_note.specs.Parts.{NoteLine, Part, lines_of}
use Rattle.sp_prog.specs.declared.area.Area.{Area}
use Rattle.sp_prog.specs.declared.routine.Routine.{Routine}
use Rattle.sp_prog.specs.declared.routine.Stmt.{Stmt}
use Rattle.sp_prog.specs.Rules.{HaveNoCommonByte, first_address, address_of}
use Rattle.sp_unit.specs.Lines.{Entry, Statement, Annotation, item_in, is_instr, is_routine_part, is_end, is_end_part, inside, Place, Outside, InHeader, InBody, place_after}
use Rattle.sp_unit.specs.Faults.{Source, AreRight, KeepsRules, areas_by, fault, is_outside, is_stray, is_stray_routine, is_entered, first_of, or_else, address_at, is_label}
use Rattle.sp_unit.specs.SourceUnits.{Raw, raws, assert_in, Coded, instr_in, coded, IsCoded, Begun, begun_by, begun, IsRoutineOf}
use Rattle.sp_unit.specs.Origin.{AreOfOneSource, said_by, entries_by}
use Rattle.sp_unit.proofs.UnitListLemmas.{Each, Pairwise, each_append, pairwise_splits, pairwise_filtered, pairwise_of_mapped, all_pairs, zip_each, zip_pairs, zip_flat, zip_weaker}
use Rattle.sp_unit.proofs.UnitMergeLemmas.{merged_items}
use Rattle.sp_unit.proofs.UnitFaultLemmas.{IsRight, note_right, statement_right, more_outside}

-- ---- Where routines begin

-- a routine begins there
pub record BeginsAt (es : List Entry) (b : Begun) : Type 0 where
  pub front : List Entry
  pub note : NoteLine
  pub whole : es ≡ front ++ Annotation note ∷ b.below
  pub part : note.part ≡ parts.Routine b.name
  pub line : b.line ≡ note.line

each_from : (es above rest : List Entry) → es ≡ above ++ rest → Each (BeginsAt es) (begun rest)
each_from es above [] whole = tt
each_from es above (Statement item ∷ below) whole = each_from es (above ++ Statement item ∷ []) below (whole ∙ sym (append_assoc above (Statement item ∷ []) below))
each_from es above (Annotation n ∷ below) whole = by n.part refl (each_from es (above ++ Annotation n ∷ []) below (whole ∙ sym (append_assoc above (Annotation n ∷ []) below)))
  where
    by : (part : Part) → n.part ≡ part → Each (BeginsAt es) (begun below) → Each (BeginsAt es) (begun_by n.line part below ++ begun below)
    by (parts.Routine name) e rest = (record { front = above; note = n; whole = whole; part = e; line = refl }, rest)
    by _ e rest = rest

pub each_begun : (es : List Entry) → Each (BeginsAt es) (begun es)
each_begun es = each_from es [] es refl

-- ---- The instructions of routines, in the order of lines

abbrev pub codes_of : Begun → List Coded
codes_of b = coded [] (inside b.below)

abbrev pub all_coded : List Begun → List Coded
all_coded bs = flat_map codes_of bs

abbrev items_of : List Coded → List Item
items_of cs = map (λ (c : Coded). c.item) cs

abbrev pub instructions_in : List Entry → List Item
instructions_in es = filter (λ (i : Item). is_instr i.kind) (filter_map item_in es)

-- of the lines from one on these are the instructions, where that line stands in no routine, or in one
abbrev Claims : Bool → List Entry → Type 0
Claims true rest = items_of (all_coded (begun rest)) ≡ instructions_in rest
Claims false rest = (asserts : List Raw) → items_of (coded asserts (inside rest) ++ all_coded (begun rest)) ≡ instructions_in rest

and_true : (b : Bool) → (b && true) ≡ false → b ≡ false
and_true true h = h
and_true false h = refl

not_stray : (place : Place) (below : List Entry) → is_outside place ≡ false → is_stray_routine place below ≡ true
not_stray Outside below h = absurd cc
not_stray (InHeader lines) below h = refl
not_stray (InBody lines more) below h = refl

emits : (item : Item) (k : ItemKind) (asserts : List Raw) (cs : List Coded) → items_of (instr_in item k asserts ++ cs) ≡ cond (is_instr k) (item ∷ items_of cs) (items_of cs)
emits item (kind.Instr i) asserts cs = refl
emits item kind.Label asserts cs = refl
emits item kind.Bytes asserts cs = refl
emits item kind.Space asserts cs = refl
emits item kind.Org asserts cs = refl
emits item kind.Other asserts cs = refl

step_outside : (item : Item) (below : List Entry) → is_instr item.kind ≡ false → Claims true below → Claims true (Statement item ∷ below)
step_outside item below is_not h = h ∙ sym (ap (λ b. cond b (item ∷ instructions_in below) (instructions_in below)) is_not)

step_inside : (item : Item) (below : List Entry) → Claims false below → Claims false (Statement item ∷ below)
step_inside item below h asserts =
    let next = cond (is_instr item.kind) [] (asserts ++ raws assert_in (Statement item ∷ [])) in
    let rest = coded next (inside below) in
    ap items_of (append_assoc (instr_in item item.kind asserts) rest (all_coded (begun below)))
    ∙ emits item item.kind asserts (rest ++ all_coded (begun below))
    ∙ ap (λ l. cond (is_instr item.kind) (item ∷ l) l) (h next)

module _ (s : Source) (es : List Entry) (right : AreRight s es) where
  statement_keeps : (above below : List Entry) (item : Item) → es ≡ above ++ Statement item ∷ below → (o : Bool) → is_outside (place_after above) ≡ o → Claims o below → Claims o (Statement item ∷ below)
  statement_keeps above below item whole true out h =
      let keeps = statement_right (is_outside (place_after above)) item.kind (right above below (Statement item) whole) in
      step_outside item below (and_true (is_instr item.kind) (ap (λ b. is_instr item.kind && b) (sym out) ∙ keeps.0)) h
  statement_keeps above below item whole false out h = step_inside item below h

  -- no routine begins in a routine
  pub routine_outside : (above below : List Entry) (n : NoteLine) (name : List ℕ) → es ≡ above ++ Annotation n ∷ below → n.part ≡ parts.Routine name → is_outside (place_after above) ≡ false → ⊥
  routine_outside above below n name whole is out =
      let keeps = note_right s above (place_after above) n.part below (right above below (Annotation n) whole) in
      let stray : is_stray above (place_after above) (parts.Routine name) below ≡ false = subst (λ part. is_stray above (place_after above) part below ≡ false) is keeps.stray in
      let wrong : true ≡ false = sym (not_stray (place_after above) below out) ∙ stray in
      cc

  passes : (b : Bool) (n : NoteLine) (below : List Entry) → Claims b below → is_end_part n.part ≡ false → begun_by n.line n.part below ≡ [] → Claims b (Annotation n ∷ below)
  passes true n below h is_not none = ap (λ l. items_of (all_coded (l ++ begun below))) none ∙ h
  passes false n below h is_not none = λ asserts.
      let next = asserts ++ raws assert_in (Annotation n ∷ []) in
      ap (λ b. items_of (coded asserts (cond b [] (Annotation n ∷ inside below)) ++ all_coded (begun_by n.line n.part below ++ begun below))) is_not
      ∙ ap (λ l. items_of (coded next (inside below) ++ all_coded (l ++ begun below))) none
      ∙ h next

  ends_here : (b : Bool) (n : NoteLine) (below : List Entry) → Claims true below → is_end_part n.part ≡ true → begun_by n.line n.part below ≡ [] → Claims b (Annotation n ∷ below)
  ends_here true n below h is none = ap (λ l. items_of (all_coded (l ++ begun below))) none ∙ h
  ends_here false n below h is none = λ asserts.
      ap (λ b. items_of (coded asserts (cond b [] (Annotation n ∷ inside below)) ++ all_coded (begun_by n.line n.part below ++ begun below))) is
      ∙ ap (λ l. items_of (all_coded (l ++ begun below))) none
      ∙ h

  begins_here : (n : NoteLine) (name : List ℕ) (below : List Entry) → Claims false below → n.part ≡ parts.Routine name → Claims true (Annotation n ∷ below)
  begins_here n name below h is = ap (λ part. items_of (all_coded (begun_by n.line part below ++ begun below))) is ∙ h []

  note_keeps : (above below : List Entry) (n : NoteLine) → es ≡ above ++ Annotation n ∷ below → (o : Bool) → is_outside (place_after above) ≡ o
      → ((b : Bool) → is_outside (place_after (above ++ Annotation n ∷ [])) ≡ b → Claims b below) → Claims o (Annotation n ∷ below)
  note_keeps above below n whole o out h = by n.part refl o out
    where
      moved : (part : Part) (b : Bool) → n.part ≡ part → is_outside (place_after above) ≡ b → is_outside (place_after (above ++ Annotation n ∷ [])) ≡ cond (is_routine_part part) false (cond (is_end_part part) true b)
      moved part b is at = more_outside above (Annotation n) b at ∙ ap (λ p. cond (is_routine_part p) false (cond (is_end_part p) true b)) is

      passed : (part : Part) (b : Bool) → n.part ≡ part → is_outside (place_after above) ≡ b → is_end_part part ≡ false → is_routine_part part ≡ false → begun_by n.line part below ≡ [] → Claims b (Annotation n ∷ below)
      passed part b is at is_not not_routine none =
          passes b n below (h b (moved part b is at ∙ ap (λ r. cond r false (cond (is_end_part part) true b)) not_routine ∙ ap (λ d. cond d true b) is_not)) (ap is_end_part is ∙ is_not)
          (ap (λ p. begun_by n.line p below) is ∙ none)

      by : (part : Part) → n.part ≡ part → (b : Bool) → is_outside (place_after above) ≡ b → Claims b (Annotation n ∷ below)
      by (parts.Routine name) is true at = begins_here n name below (h false (moved (parts.Routine name) true is at)) is
      by (parts.Routine name) is false at = absurd (routine_outside above below n name whole is at)
      by parts.End is b at = ends_here b n below (h true (moved parts.End b is at)) (ap is_end_part is) (ap (λ p. begun_by n.line p below) is)
      by (parts.Stack first last) is b at = passed (parts.Stack first last) b is at refl refl refl
      by (parts.Byte name addr) is b at = passed (parts.Byte name addr) b is at refl refl refl
      by (parts.Word name addr) is b at = passed (parts.Word name addr) b is at refl refl refl
      by (parts.Bytes name addr len) is b at = passed (parts.Bytes name addr len) b is at refl refl refl
      by parts.Start is b at = passed parts.Start b is at refl refl refl
      by (parts.Pre note) is b at = passed (parts.Pre note) b is at refl refl refl
      by (parts.Post note) is b at = passed (parts.Post note) b is at refl refl refl
      by (parts.Reads items) is b at = passed (parts.Reads items) b is at refl refl refl
      by (parts.Changes items) is b at = passed (parts.Changes items) b is at refl refl refl
      by (parts.Ins ports) is b at = passed (parts.Ins ports) b is at refl refl refl
      by (parts.Outs ports) is b at = passed (parts.Outs ports) b is at refl refl refl
      by (parts.Depth n) is b at = passed (parts.Depth n) b is at refl refl refl
      by (parts.Assert note) is b at = passed (parts.Assert note) b is at refl refl refl

  claims : (rest above : List Entry) → es ≡ above ++ rest → (o : Bool) → is_outside (place_after above) ≡ o → Claims o rest
  claims [] above whole true out = refl
  claims [] above whole false out = λ asserts. refl
  claims (Statement item ∷ below) above whole o out =
      statement_keeps above below item whole o out
      (claims below (above ++ Statement item ∷ []) (whole ∙ sym (append_assoc above (Statement item ∷ []) below)) o (more_outside above (Statement item) o out))
  claims (Annotation n ∷ below) above whole o out =
      note_keeps above below n whole o out (λ b at. claims below (above ++ Annotation n ∷ []) (whole ∙ sym (append_assoc above (Annotation n ∷ []) below)) b at)

  -- the instructions of the routines are those of the source
  pub instructions_are : items_of (all_coded (begun es)) ≡ instructions_in es
  instructions_are = claims es [] refl true refl

-- ---- Each instruction with its statement

abbrev IsItems : Coded → Type 0
IsItems c = c.item.kind ≡ kind.Instr c.instr

instr_is : (item : Item) (k : ItemKind) (asserts : List Raw) → item.kind ≡ k → Each IsItems (instr_in item k asserts)
instr_is item (kind.Instr i) asserts e = (e, tt)
instr_is item kind.Label asserts e = tt
instr_is item kind.Bytes asserts e = tt
instr_is item kind.Space asserts e = tt
instr_is item kind.Org asserts e = tt
instr_is item kind.Other asserts e = tt

pub coded_items : (asserts : List Raw) (lines : List Entry) → Each IsItems (coded asserts lines)
coded_items asserts [] = tt
coded_items asserts (Statement item ∷ lines) =
    each_append IsItems (instr_in item item.kind asserts) (coded (cond (is_instr item.kind) [] (asserts ++ raws assert_in (Statement item ∷ []))) lines) (instr_is item item.kind asserts refl)
    (coded_items (cond (is_instr item.kind) [] (asserts ++ raws assert_in (Statement item ∷ []))) lines)
coded_items asserts (Annotation n ∷ lines) = coded_items (asserts ++ raws assert_in (Annotation n ∷ [])) lines

pub all_coded_items : (bs : List Begun) → Each IsItems (all_coded bs)
all_coded_items [] = tt
all_coded_items (b ∷ bs) = each_append IsItems (codes_of b) (all_coded bs) (coded_items [] (inside b.below)) (all_coded_items bs)

-- two statements' instructions have no byte at one address
abbrev ApartItems : Item → Item → Type 0
ApartItems one other = (i j : Instr) → one.kind ≡ kind.Instr i → other.kind ≡ kind.Instr j → (k m : ℕ) → k < length (code i) → m < length (code j) → one.addr + k ≢ other.addr + m

pub items_apart : (image : ImageMap) (items : List Item) → HoldsItems image items → Pairwise ApartItems items
items_apart image items holds = pairwise_splits ApartItems items (λ front between back one other whole i j. codes_apart image items holds front between back one other i j whole)

-- an instruction of a unit is this one
pub record Stands (s : Source) (c : Coded) (stmt : Stmt) : Type 0 where
  pub is : IsCoded s c stmt
  pub kind_is : c.item.kind ≡ kind.Instr c.instr

no_byte : (s : Source) (c d : Coded) (one other : Stmt) → Stands s c one → Stands s d other → ApartItems c.item d.item → HaveNoCommonByte one other
no_byte s c d one other h k apart i j lt also same =
    apart c.instr d.instr h.kind_is k.kind_is i j (subst (λ x. i < length (code x)) h.is.instr lt) (subst (λ x. j < length (code x)) k.is.instr also)
    (ap (λ a. a + i) (sym h.is.address) ∙ same ∙ ap (λ a. a + j) k.is.address)

zip_and : {X Y : Type 0} (Q : X → Y → Type 0) (P : X → Type 0) (xs : List X) (ys : List Y) → AllZip Q xs ys → Each P xs → AllZip (λ x y. Q x y × P x) xs ys
zip_and Q P [] [] z h = tt
zip_and Q P [] (y ∷ ys) z h = absurd z
zip_and Q P (x ∷ xs) [] z h = absurd z
zip_and Q P (x ∷ xs) (y ∷ ys) z h = ((z.0, h.0), zip_and Q P xs ys z.1 h.1)

module _ (s : Source) (areas : List Area) (es : List Entry) (found : List Routine) (each : AllZip (IsRoutineOf s areas) (begun es) found) where
  pub found_code : AllZip (Stands s) (all_coded (begun es)) (flat_map (λ (r : Routine). r.code) found)
  found_code =
      let zipped = zip_flat (IsCoded s) codes_of (λ (r : Routine). r.code) (begun es) found (zip_weaker (IsRoutineOf s areas) (λ b r. AllZip (IsCoded s) (codes_of b) r.code) (λ b r h. h.code) (begun es) found each) in
      let both = zip_and (IsCoded s) IsItems (all_coded (begun es)) (flat_map (λ (r : Routine). r.code) found) zipped (all_coded_items (begun es)) in
      zip_weaker (λ c stmt. IsCoded s c stmt × IsItems c) (Stands s) (λ c stmt h. record { is = h.0; kind_is = h.1 }) (all_coded (begun es)) (flat_map (λ (r : Routine). r.code) found) both

  module _ (right : AreRight s es) where
    -- what holds of each two statements of a source holds of each two instructions of its routines
    pub pairs_of_items : (R : Item → Item → Type 0) → Pairwise R (filter_map item_in es) → Pairwise (λ (c d : Coded). R c.item d.item) (all_coded (begun es))
    pairs_of_items R h =
        pairwise_of_mapped R (λ (c : Coded). c.item) (all_coded (begun es))
        (subst (Pairwise R) (sym (instructions_are s es right)) (pairwise_filtered R (λ (i : Item). is_instr i.kind) (filter_map item_in es) h))

    pub pairs_of_code : (R : Item → Item → Type 0) (S : Stmt → Stmt → Type 0) → ((c d : Coded) (one other : Stmt) → Stands s c one → Stands s d other → R c.item d.item → S one other)
        → Pairwise R (filter_map item_in es) → Pairwise S (flat_map (λ (r : Routine). r.code) found)
    pairs_of_code R S f h =
        zip_pairs (Stands s) (λ (c d : Coded). R c.item d.item) S (λ c d one other a b. f c d one other a b) (all_coded (begun es)) (flat_map (λ (r : Routine). r.code) found) found_code (pairs_of_items R h)

    pub bytes_apart : (image : ImageMap) → HoldsItems image (filter_map item_in es) → Pairwise HaveNoCommonByte (flat_map (λ (r : Routine). r.code) found)
    bytes_apart image holds = pairs_of_code ApartItems HaveNoCommonByte (no_byte s) (items_apart image (filter_map item_in es) holds)

-- ---- Each routine has an instruction

outside_is : (place : Place) (below : List Entry) → is_stray_routine place below ≡ false → (place ≡ Outside) × (list_any is_end below ≡ true)
outside_is Outside below h = (refl, by (list_any is_end below) h)
  where
    by : (b : Bool) → not b ≡ false → b ≡ true
    by true e = refl
    by false e = absurd cc
outside_is (InHeader lines) below h = absurd cc
outside_is (InBody lines more) below h = absurd cc

not_false : (b : Bool) → not b ≡ false → b ≡ true
not_false true e = refl
not_false false e = absurd cc

-- an instruction stands first among these lines
pub record HasFirst (name : List ℕ) (lines : List Entry) : Type 0 where
  pub address : ℕ
  pub first : first_of address_at lines ≡ Some address
  pub label : list_any (is_label name address) lines ≡ true

first_is : (name : List ℕ) (lines : List Entry) → is_entered name lines ≡ true → HasFirst name lines
first_is name lines h = by (first_of address_at lines) refl h
  where
    by : (o : Option ℕ) → first_of address_at lines ≡ o → unwrap_or (option_map (λ addr. list_any (is_label name addr) lines) o) false ≡ true → HasFirst name lines
    by None e k = absurd cc
    by (Some a) e k = record { address = a; first = e; label = k }

-- what the line of a routine keeps
pub record IsBegunRight (above below : List Entry) (name : List ℕ) : Type 0 where
  pub outside : place_after above ≡ Outside
  pub ended : list_any is_end below ≡ true
  pub first : HasFirst name (inside below)

pub begun_right : (s : Source) (es : List Entry) → AreRight s es → (b : Begun) (at : BeginsAt es b) → IsBegunRight at.front b.below b.name
begun_right s es right b at =
    let whole : fault s at.front (Annotation at.note) b.below ≡ None = right at.front b.below (Annotation at.note) at.whole in
    let keeps : IsRight s at.front (place_after at.front) (parts.Routine b.name) b.below =
    subst (λ part. IsRight s at.front (place_after at.front) part b.below) at.part (note_right s at.front (place_after at.front) at.note.part b.below whole) in
    let place = outside_is (place_after at.front) b.below keeps.stray in
    record { outside = place.0; ended = place.1; first = first_is b.name (inside b.below) (not_false (is_entered b.name (inside b.below)) keeps.unknown) }

-- the address of the first instruction of a list
abbrev pub first_coded : List Coded → Option ℕ
first_coded [] = None
first_coded (c ∷ cs) = Some c.item.addr

first_in : (item : Item) (k : ItemKind) (asserts : List Raw) (cs : List Coded) (o : Option ℕ) → o ≡ first_coded cs → or_else (cond (is_instr k) (Some item.addr) None) o ≡ first_coded (instr_in item k asserts ++ cs)
first_in item (kind.Instr i) asserts cs o h = refl
first_in item kind.Label asserts cs o h = h
first_in item kind.Bytes asserts cs o h = h
first_in item kind.Space asserts cs o h = h
first_in item kind.Org asserts cs o h = h
first_in item kind.Other asserts cs o h = h

pub first_coded_is : (asserts : List Raw) (lines : List Entry) → first_of address_at lines ≡ first_coded (coded asserts lines)
first_coded_is asserts [] = refl
first_coded_is asserts (Statement item ∷ lines) =
    let next = cond (is_instr item.kind) [] (asserts ++ raws assert_in (Statement item ∷ [])) in
    first_in item item.kind asserts (coded next lines) (first_of address_at lines) (first_coded_is next lines)
first_coded_is asserts (Annotation n ∷ lines) = first_coded_is (asserts ++ raws assert_in (Annotation n ∷ [])) lines

-- the first instruction of a routine stands at that address
pub first_stands : (s : Source) (cs : List Coded) (stmts : List Stmt) (a : ℕ) → AllZip (IsCoded s) cs stmts → first_coded cs ≡ Some a → (0 < length stmts) × (first_address stmts ≡ a)
first_stands s [] stmts a z h = absurd cc
first_stands s (c ∷ cs) [] a z h = absurd z
first_stands s (c ∷ cs) (stmt ∷ stmts) a z h = let there : c.item.addr ≡ a = cc in (omega arith, z.0.address ∙ there)

pub routine_stands : (s : Source) (areas : List Area) (es : List Entry) → AreRight s es → (b : Begun) (r : Routine) → BeginsAt es b → IsRoutineOf s areas b r → (0 < length r.code) × (first_of address_at (inside b.below) ≡ Some (address_of r))
routine_stands s areas es right b r at h =
    let begins = (begun_right s es right b at).first in
    let first = first_stands s (codes_of b) r.code begins.address h.code (sym (first_coded_is [] (inside b.below)) ∙ begins.first) in
    (first.0, begins.first ∙ ap (λ a. Some a) (sym first.1))

-- ---- For whoever builds routines

module _ (listing : Listing) (notes : List declared.NoteLine) (found : List Routine) (origin : AreOfOneSource listing notes) (keeps : KeepsRules (said_by listing notes) (entries_by listing notes))
    (each : AllZip (IsRoutineOf (said_by listing notes) (areas_by (said_by listing notes).value (said_by listing notes).notes)) (begun (entries_by listing notes)) found) where
  abbrev s : Source
  s = said_by listing notes

  abbrev es : List Entry
  es = entries_by listing notes

  abbrev areas : List Area
  areas = areas_by s.value s.notes

  pub found_apart : AllPairs HaveNoCommonByte (flat_map (λ (r : Routine). r.code) found)
  found_apart =
      let holds = subst (HoldsItems listing.image) (sym (merged_items listing.items (lines_of notes))) (holds_items origin.bytes origin.rows listing origin.listed) in
      all_pairs HaveNoCommonByte (flat_map (λ (r : Routine). r.code) found) (bytes_apart s areas es found each keeps.right listing.image holds)

  pub found_some : All (λ (r : Routine). 0 < length r.code) found
  found_some =
      All-from_recursion (λ (r : Routine). 0 < length r.code) found
      (zip_each (IsRoutineOf s areas) (BeginsAt es) (λ (r : Routine). 0 < length r.code) (λ b r h at. (routine_stands s areas es keeps.right b r at h).0) (begun es) found each (each_begun es))
