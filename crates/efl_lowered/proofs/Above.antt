-- The temporaries of the procedures of a greater rank are above a procedure: it changes none of them.
use Rattle.std.proofs.Common.{◌≡◌, ◌≢◌, ℕ, suc, ◌<◌, Bool, true, false, true≢false, List, [], ◌∷◌, length, Option, None, Some, refl, sym, ap, ◌∙◌, subst, arith, if◌then◌else◌, ◌||◌, ◌&&◌}
use Rattle.std.specs.Prelude.{nat_eq, nat_lt, slice_index_or}
use Rattle.std.specs.List.{list_any, slice_get}
use Rattle.std.proofs.lemmas.Bool.{and_parts, and_from, eqb-true, eq-eqb, ltb-true, lt-ltb}
use Rattle.std.proofs.lemmas.Option.{slice_get_within}
use Rattle.ground.specs.declared.value.Kind.{Kind}
use Rattle.ground.specs.declared.value.Kind.TheVariants.{Integer, Logical}
use Rattle.f66_tree.specs.Units.{Linkage}
use Rattle.f66_program.specs.Linking.{IsLinkage}
use Rattle.call_cycles.specs.declared.edge.Edge.{Edge}
use Rattle.call_cycles.specs.Cycles.{Fall}
use Rattle.efl_tree.specs.Syntax.{EflProgram}
use Rattle.efl_scope.specs.Marks.{Located, program_variables}
use Rattle.efl_types.specs.Whole.{edges_of}
use Rattle.efl_lowered.specs.Naming.{Naming}
use Rattle.efl_lowered.specs.Lowering.{calls}
use Rattle.efl_lowered.specs.Facts.{is_unit, AreReady}
use Rattle.efl_lowered.specs.Names.{OfTemporary, AreNames}
use Rattle.efl_lowered.proofs.Lists.{or_left, or_right, some_of, some_below, below_some, some_below_is}
use Rattle.efl_lowered.proofs.UnitLemmas.{Rs}
use Rattle.efl_lowered.proofs.Apart.{same_temporary, variable_no_temporary, temporary_no_procedure}
use Rattle.efl_lowered.proofs.Seats.{is_seated, seats_apart}
use Rattle.efl_lowered.proofs.Cells.{seat, seat_by, is_place, cell}

module _ (ranks : List ℕ) where
  abbrev pub rank : ℕ → ℕ
  rank n = slice_index_or ranks n 0

  falls_along : (n m : ℕ) (es : List Edge) → Fall ranks es → list_any (λ e. nat_eq e.from n && nat_eq e.to m) es ≡ true → rank m < rank n
  falls_along n m [] h is = absurd (true≢false (sym is))
  falls_along n m (e ∷ es) h is = by_first (nat_eq e.from n && nat_eq e.to m) refl (falls_along n m es (λ j l. h (suc j) (omega (l, arith))))
    where
      by_first : (b : Bool) → (nat_eq e.from n && nat_eq e.to m) ≡ b → (list_any (λ d. nat_eq d.from n && nat_eq d.to m) es ≡ true → rank m < rank n) → rank m < rank n
      by_first true t later =
          let s = and_parts (nat_eq e.from n) (nat_eq e.to m) t in
          let less : rank e.to < rank e.from = h 0 (omega arith) in
          subst (λ i. rank m < rank i) (eqb-true e.from n s.0) (subst (λ i. rank i < rank e.from) (eqb-true e.to m s.1) less)
      by_first false t later = later (sym (ap (λ b. b || list_any (λ d. nat_eq d.from n && nat_eq d.to m) es) t) ∙ is)

-- so many temporaries as a unit has
abbrev pub room_of : EflProgram → Naming → ℕ → ℕ
room_of p names n = if (is_unit p n) then names.room n else 0

pub room_is : (p : EflProgram) (names : Naming) (n : ℕ) → is_unit p n ≡ true → room_of p names n ≡ names.room n
room_is p names n is = ap (λ b. if b then names.room n else 0) is

pub within_room : (p : EflProgram) (names : Naming) (n i : ℕ) → i < room_of p names n → (is_unit p n ≡ true) × (i < names.room n)
within_room p names n i lt = by_unit (is_unit p n) refl lt
  where
    by_unit : (b : Bool) → is_unit p n ≡ b → i < (if b then names.room n else 0) → (is_unit p n ≡ true) × (i < names.room n)
    by_unit true e h = (e, h)
    by_unit false e h = absurd (omega (h, arith))

pub seated_temporary : (p : EflProgram) (names : Naming) (n : ℕ) (k : Kind) (i : ℕ) → i < names.room n → is_seated p names n (OfTemporary k i) ≡ true
seated_temporary p names n k i lt = lt-ltb i (names.room n) lt

module _ (p : EflProgram) (ranks : List ℕ) (names : Naming) (l : Linkage) where
  abbrev pub spare : ℕ → Kind → ℕ → ℕ
  spare u k i = l.number u (names.temp k i) 0

  abbrev is_spare : ℕ → Kind → ℕ → Bool
  is_spare u k j = some_below (room_of p names u) (λ i. nat_eq j (spare u k i))

  abbrev pub is_above : ℕ → ℕ → Bool
  is_above n j = some_below (length p.procedures) (λ u. nat_lt (rank ranks n) (rank ranks u) && (is_spare u Integer j || is_spare u Logical j))

  pub record Above (n j : ℕ) : Type 0 where
    pub unit : ℕ
    pub kind : Kind
    pub number : ℕ
    pub greater : rank ranks n < rank ranks unit
    pub room : number < room_of p names unit
    pub is : j ≡ spare unit kind number

  above_of : (n j : ℕ) → is_above n j ≡ true → Above n j
  above_of n j h =
      let w = some_below_is (length p.procedures) (λ u. nat_lt (rank ranks n) (rank ranks u) && (is_spare u Integer j || is_spare u Logical j)) h in
      let g = and_parts (nat_lt (rank ranks n) (rank ranks w.0)) (is_spare w.0 Integer j || is_spare w.0 Logical j) w.2 in
      by_kind w.0 (ltb-true (rank ranks n) (rank ranks w.0) g.0) (is_spare w.0 Integer j) refl g.1
    where
      of_kind : (u : ℕ) (k : Kind) → rank ranks n < rank ranks u → is_spare u k j ≡ true → Above n j
      of_kind u k lt t = let w = some_below_is (room_of p names u) (λ i. nat_eq j (spare u k i)) t in record { unit = u; kind = k; number = w.0; greater = lt; room = w.1; is = eqb-true j (spare u k w.0) w.2 }

      by_kind : (u : ℕ) → rank ranks n < rank ranks u → (b : Bool) → is_spare u Integer j ≡ b → (is_spare u Integer j || is_spare u Logical j) ≡ true → Above n j
      by_kind u lt true e t = of_kind u Integer lt e
      by_kind u lt false e t = of_kind u Logical lt (sym (ap (λ b. b || is_spare u Logical j) e) ∙ t)

  unit_below : (u : ℕ) → is_unit p u ≡ true → u < length p.procedures
  unit_below u is = let w = some_of (slice_get p.procedures u) is in slice_get_within p.procedures u w.0 w.1

  is_above_by : (n j u : ℕ) (k : Kind) (i : ℕ) → rank ranks n < rank ranks u → i < room_of p names u → j ≡ spare u k i → is_above n j ≡ true
  is_above_by n j u k i lt room is =
      below_some (length p.procedures) (λ v. nat_lt (rank ranks n) (rank ranks v) && (is_spare v Integer j || is_spare v Logical j)) u (unit_below u (within_room p names u i room).0)
      (and_from (nat_lt (rank ranks n) (rank ranks u)) (is_spare u Integer j || is_spare u Logical j) (lt-ltb (rank ranks n) (rank ranks u) lt) (by_kind k is))
    where
      by_kind : (d : Kind) → j ≡ spare u d i → (is_spare u Integer j || is_spare u Logical j) ≡ true
      by_kind Integer e = or_left (is_spare u Integer j) (is_spare u Logical j) (below_some (room_of p names u) (λ m. nat_eq j (spare u Integer m)) i room (eq-eqb j (spare u Integer i) e))
      by_kind Logical e = or_right (is_spare u Integer j) (is_spare u Logical j) (below_some (room_of p names u) (λ m. nat_eq j (spare u Logical m)) i room (eq-eqb j (spare u Logical i) e))

  module _ (falls : Fall ranks (edges_of p)) where
    called_lower : (n m : ℕ) → calls p n m ≡ true → rank ranks m < rank ranks n
    called_lower n m h = falls_along ranks n m (edges_of p) falls h

    -- what is above a procedure is above those that it calls
    pub above_called : (n m : ℕ) → calls p n m ≡ true → (j : ℕ) → is_above n j ≡ true → is_above m j ≡ true
    above_called n m is j h =
        let a = above_of n j h in
        let less = called_lower n m is in
        let more = a.greater in
        is_above_by m j a.unit a.kind a.number (omega (less, more, arith)) a.room a.is

    -- and so are its own temporaries
    pub own_above : (n m : ℕ) → calls p n m ≡ true → (k : Kind) (i : ℕ) → i < room_of p names n → is_above m (spare n k i) ≡ true
    own_above n m is k i room = is_above_by m (spare n k i) n k i (called_lower n m is) room refl

  module _ (are : AreNames p names) (ready : AreReady p names) (linked : IsLinkage (Rs p names) l) where
    -- none of them is a temporary of the procedure itself
    pub above_temp : (n : ℕ) (k : Kind) (i j : ℕ) → i < room_of p names n → is_above n j ≡ true → j ≢ spare n k i
    above_temp n k i j room h e =
        let a = above_of n j h in
        let s = within_room p names a.unit a.number a.room in
        let t = within_room p names n i room in
        let same = seats_apart p names are ready l linked a.unit n (OfTemporary a.kind a.number) (OfTemporary k i) s.0 t.0 (seated_temporary p names a.unit a.kind a.number s.1) (seated_temporary p names n k i t.1) (sym a.is ∙ e) in
        let more = a.greater in
        let eq = ap (rank ranks) same.0 in
        omega (more, eq, arith)

    no_seat : (q : ℕ) (k : Kind) (i : ℕ) (o : Option Located) → OfTemporary k i ≡ (seat_by p names q o).1 → ⊥
    no_seat q k i (Some x) e = variable_no_temporary q k i (sym e)
    no_seat q k i None e = temporary_no_procedure k i _ e

    -- nor a cell
    pub temp_no_cell : (n : ℕ) (k : Kind) (i q : ℕ) → i < room_of p names n → is_place p names q ≡ true → cell p names l q ≢ spare n k i
    temp_no_cell n k i q room place e =
        let t = within_room p names n i room in
        let g = and_parts (is_unit p (seat p names q).0) (is_seated p names (seat p names q).0 (seat p names q).1) place in
        no_seat q k i (slice_get (program_variables p) q) (seats_apart p names are ready l linked n (seat p names q).0 (OfTemporary k i) (seat p names q).1 t.0 g.0 (seated_temporary p names n k i t.1) g.1 (sym e)).1

    pub above_cell : (n q j : ℕ) → is_place p names q ≡ true → is_above n j ≡ true → j ≢ cell p names l q
    above_cell n q j place h e = let a = above_of n j h in temp_no_cell a.unit a.kind a.number q a.room place (sym e ∙ a.is)

    pub temp_apart : (n : ℕ) (k d : Kind) (i j : ℕ) → i < room_of p names n → j < room_of p names n → i ≢ j → spare n k i ≢ spare n d j
    temp_apart n k d i j room room1 ne e =
        let s = within_room p names n i room in
        let t = within_room p names n j room1 in
        ne (same_temporary k d i j (seats_apart p names are ready l linked n n (OfTemporary k i) (OfTemporary d j) s.0 s.0 (seated_temporary p names n k i s.1) (seated_temporary p names n d j t.1) e).1).1
