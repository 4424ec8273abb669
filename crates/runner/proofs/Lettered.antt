-- Units of a row that come or go as characters, several at once.
use Rattle.std.proofs.Common.{◌≡◌, ℕ, suc, ◌+◌, ◌%◌, ◌^◌, ◌<◌, ◌≤◌, Bool, true, false, ◌&&◌, List, [], ◌∷◌, ◌++◌, length, map, take, drop, set, get_or, Some, All, refl, sym, ap, ◌∙◌, subst, append_assoc, length-append, drop-cons, arith, nat_le}
use Rattle.std.specs.Prelude.{pos, bit_or, if◌then◌else◌}
use Rattle.std.proofs.Math.Nat.{mod-eq_of_lt}
use Rattle.std.proofs.lemmas.Nat.{le_or_l, le_or_r}
use Rattle.std.proofs.Math.Seq.{set-append_seam}
use Rattle.std.proofs.lemmas.Bool.{lt-ltb, leb-true, true≢false}
use Rattle.std.proofs.lemmas.List.{length-map, length-set, length-drop, map-append, length-take-le, take-take, take_more, take_more_set, take-map}
use Rattle.std.proofs.lemmas.List.Elements.{All-head, All-tail}
use Rattle.std.proofs.lemmas.Option.{slice_get-get_or}
use borrow.Rule.Slice.PartMut.{put_mid, put_same, post_of}
use Rattle.ground.specs.declared.place.Place.{Place}
use Rattle.ground.specs.declared.trap.Trap.TheVariants.{Subscript, ValueArgument}
use Rattle.ground.specs.declared.value.Kind.{Kind}
use Rattle.ground.specs.declared.value.Kind.TheVariants.{Integer}
use Rattle.ground.specs.Arithmetic.{IsInRange}
use Rattle.ground.specs.Content.{Whole}
use Rattle.f66_tree.specs.declared.editing.Way.{Way}
use Rattle.f66_tree.specs.declared.editing.Way.TheVariants.{Reading, Writing}
use Rattle.f66_tree.specs.Evaluation.{asked}
use Rattle.f66_tree.specs.Fields.{Fields}
use Rattle.f66_tree.specs.Records.{due, put, take as take_from}
use Rattle.f66_tree.specs.Statements.{taped}
use Rattle.f66_tree.specs.World.{Record, Tape, Store, World, Gives, bind, settle, Moves, Yields, Traps, moving, taping, holding, put_in}
use Rattle.format_io.specs.Letters.{IsLetter}
use Rattle.format_io.specs.Places.{Stand as Standing}
use Rattle.record_flow.specs.Flows.{tape}
use Rattle.record_flow.specs.Letters.{SendsLetters, GetsLetters}
use Rattle.stack_code.specs.StackMachine.{Spot, At, unit_of, shift, store, transfer, edited, row}
use Rattle.runner.specs.declared.words.Word.{Word}
use Rattle.runner.specs.declared.words.Cell.{Cell}
use Rattle.runner.specs.declared.words.Cell.TheVariants as cells
use Rattle.runner.specs.Blocks.{coded, Advances, MovesUnits}
use Rattle.runner.specs.Exchanges.{IsSpot}
use Rattle.runner.specs.Words.{Shows, IsSpotWord, Agrees, content_in}
use Rattle.runner.proofs.Cells.{agrees_put, same_unit}

-- ---- codes in a block and in units ----

-- the next one takes another content
seam_set : {A : Type 0} (xs old : List A) (i : ℕ) (x d : A) → length xs ≡ i → i < length old → set (xs ++ drop i old) i x ≡ (xs ++ x ∷ []) ++ drop (i + 1) old
seam_set xs old i x d n lt =
    let behind = drop (suc i) old in
    ap (λ v. set (xs ++ v) i x) (drop-cons old i d lt)
    ∙ ap (λ v. set (xs ++ get_or old i d ∷ behind) v x) (sym n)
    ∙ set-append_seam xs (get_or old i d) behind x
    ∙ sym (append_assoc xs (x ∷ []) behind)
    ∙ ap (λ v. (xs ++ x ∷ []) ++ drop v old) (let e : suc i ≡ i + 1 = omega arith in e)

-- one more unit holds a code of the block
pub kept_more : (block : List ℕ) (i : ℕ) (units old : List Cell) → units ≡ map coded (take i block) ++ drop i old → i < length block → i < length old
    → set units i (coded (get_or block i 0)) ≡ map coded (take (i + 1) block) ++ drop (i + 1) old
kept_more block i units old is inside fits =
    let x = coded (get_or block i 0) in
    ap (λ v. set v i x) is
    ∙ seam_set (map coded (take i block)) old i x cells.Nothing (length-map (take i block) coded ∙ length-take-le i block (omega arith)) fits
    ∙ ap (λ v. v ++ drop (i + 1) old) (sym (map-append coded (take i block) (get_or block i 0 ∷ [])) ∙ ap (map coded) (sym (take_more block i 0 inside)))

-- one more unit shows its code, where all of them are of one byte
pub shown_more : (units : List Cell) (block : List ℕ) (i all bits kinds kind : ℕ) (x : Cell) → i < length units → i < length block → (kinds ≡ 0 → all < 256 → take i units ≡ map coded (take i block)) → x ≡ get_or units i x → (kind ≡ 0 → bits < 2 ^ 31 → x ≡ coded bits)
    → bit_or kinds kind ≡ 0 → bit_or all bits < 256 → take (i + 1) units ≡ map coded (take (i + 1) (set block i (bits % 256)))
shown_more units block i all bits kinds kind x inside fits front there here none low =
    let before : all < 256 = let l = le_or_l all bits in omega (arith, low, l) in
    let no_kinds : kinds ≡ 0 = let l = le_or_l kinds kind in omega (arith, none, l) in
    let no_kind : kind ≡ 0 = let l = le_or_r kinds kind in omega (arith, none, l) in
    let byte : bits < 256 = let l = le_or_r all bits in omega (arith, low, l) in
    take_more units i x inside
    ∙ ap (λ v. v ++ get_or units i x ∷ []) (front no_kinds before)
    ∙ ap (λ v. map coded (take i block) ++ v ∷ []) (sym there ∙ here no_kind (omega (arith, byte)))
    ∙ ap (λ n. map coded (take i block) ++ coded n ∷ []) (sym (mod-eq_of_lt byte))
    ∙ sym (map-append coded (take i block) (bits % 256 ∷ []))
    ∙ ap (map coded) (sym (take_more_set block i (bits % 256) fits))

-- what went out of a block are the codes of units
pub codes_went : (units : List Cell) (codes : List ℕ) (k : ℕ) → units ≡ map coded codes → take k units ≡ map coded (take k codes)
codes_went units codes k shown = ap (take k) shown ∙ take-map coded k codes

-- ---- codes in a store ----

-- units of a store hold these codes, one after another from here on
abbrev pub AreCoded : List ℕ → Store → ℕ → Type 0
AreCoded [] st unit = Unit {0}
AreCoded (c ∷ cs) st unit = (st unit ≡ Whole (pos c)) × AreCoded cs st (suc unit)

pub are_coded : (cs : List ℕ) (held : List Cell) (unit : ℕ) (st : Store) → Agrees held st → unit + length cs ≤ length held → take (length cs) (drop unit held) ≡ map coded cs → AreCoded cs st unit
are_coded [] held unit st a fits e = tt
are_coded (c ∷ cs) held unit st a fits e =
    let lt : unit < length held = omega arith in
    let f : get_or held unit cells.Nothing ∷ take (length cs) (drop (suc unit) held) ≡ coded c ∷ map coded cs = ap (take (suc (length cs))) (sym (drop-cons held unit cells.Nothing lt)) ∙ e in
    let head : get_or held unit cells.Nothing ≡ coded c = cc in
    let tail : take (length cs) (drop (suc unit) held) ≡ map coded cs = cc in (
      a.same unit ∙ ap content_in (slice_get-get_or held unit cells.Nothing lt) ∙ ap (λ x. content_in (Some x)) head,
      are_coded cs held (suc unit) st a (omega arith) tail,
    )

-- these codes are stored, one after another from here on
abbrev pub with_codes : List ℕ → ℕ → Store → Store
with_codes [] unit st = st
with_codes (c ∷ cs) unit st = with_codes cs (suc unit) (put_in unit (Whole (pos c)) st)

abbrev pub set_codes : List ℕ → ℕ → List Cell → List Cell
set_codes [] unit held = held
set_codes (c ∷ cs) unit held = set_codes cs (suc unit) (set held unit (coded c))

below : (a b : Bool) → (a && b) ≡ true → b ≡ true
below true b e = e
below false b e = absurd (true≢false (sym e))

code_small : (c : ℕ) → IsLetter c → IsInRange (pos c)
code_small c h = record { magnitude = let e : c ≤ 126 = leb-true c 126 (below (nat_le 32 c) (nat_le c 126) h) in omega arith }

pub agrees_codes : (cs : List ℕ) (unit : ℕ) (held : List Cell) (st : Store) → All IsLetter cs → unit + length cs ≤ length held → Agrees held st → Agrees (set_codes cs unit held) (with_codes cs unit st)
agrees_codes [] unit held st all fits a = a
agrees_codes (c ∷ cs) unit held st all fits a =
    let long = length-set held unit (coded c) in
    agrees_codes cs (suc unit) (set held unit (coded c)) (put_in unit (Whole (pos c)) st) (All-tail IsLetter c cs all) (omega (arith, fits, long)) (agrees_put held unit (coded c) st (omega arith) a (code_small c (All-head IsLetter c cs all)))

pub codes_set : (cs : List ℕ) (front units back : List Cell) → length cs ≤ length units → set_codes cs (length front) (front ++ (units ++ back)) ≡ front ++ ((map coded cs ++ drop (length cs) units) ++ back)
codes_set [] front units back le = refl
codes_set (c ∷ cs) front [] back le = absurd (omega arith)
codes_set (c ∷ cs) front (u ∷ units) back le =
    let more = front ++ coded c ∷ [] in
    let long : suc (length front) ≡ length more = let e = length-append front (coded c ∷ []) in omega (arith, e) in
    ap (set_codes cs (suc (length front))) (set-append_seam front u (units ++ back) (coded c) ∙ sym (append_assoc front (coded c ∷ []) (units ++ back)))
    ∙ ap (λ n. set_codes cs n (more ++ (units ++ back))) long
    ∙ codes_set cs more units back (omega arith)
    ∙ append_assoc front (coded c ∷ []) ((map coded cs ++ drop (length cs) units) ++ back)

-- ---- a row ----

module _ (place : Place) (p : Spot) where
  abbrev at : ℕ → Spot
  at index = record { first = p.first; size = p.size; position = p.position + index; fixed = p.fixed }

  module _ (n index c : ℕ) (w : World) (ready behind : Tape) (inside : p.position + index < p.size) (found : due Integer w.state.tape ≡ Moves ready) where
    there : shift p index ≡ Yields (at index)
    there = ap (λ b. if b then Yields (at index) else Traps Subscript) (lt-ltb (p.position + index) p.size inside)

    one_sent : put (Whole (pos c)) ready ≡ Moves behind → w.state.store (unit_of (at index)) ≡ Whole (pos c) → row place Writing Integer p (suc n) index w ≡ row place Writing Integer p n (index + 1) (taping behind w)
    one_sent sent holds =
        ap (λ t. bind (settle place t w) (λ q w1. bind (edited place Writing Integer q w1) (λ _ w2. row place Writing Integer p n (index + 1) w2))) there
        ∙ ap (λ m. bind (bind (moving place m w) (λ _ w1. transfer place Writing Integer (at index) w1)) (λ _ w2. row place Writing Integer p n (index + 1) w2)) found
        ∙ ap (λ v. bind (bind (settle place (asked Integer v) (taping ready w)) (λ x w1. taped place (put x) w1)) (λ _ w2. row place Writing Integer p n (index + 1) w2)) holds
        ∙ ap (λ m. bind (moving place m (taping ready w)) (λ _ w2. row place Writing Integer p n (index + 1) w2)) sent

    one_got : take_from ready ≡ Yields (Whole (pos c), behind) → p.fixed ≡ false → row place Reading Integer p (suc n) index w ≡ row place Reading Integer p n (index + 1) (holding (put_in (unit_of (at index)) (Whole (pos c)) w.state.store) (taping behind w))
    one_got got free =
        ap (λ t. bind (settle place t w) (λ q w1. bind (edited place Reading Integer q w1) (λ _ w2. row place Reading Integer p n (index + 1) w2))) there
        ∙ ap (λ m. bind (bind (moving place m w) (λ _ w1. transfer place Reading Integer (at index) w1)) (λ _ w2. row place Reading Integer p n (index + 1) w2)) found
        ∙ ap (λ t. bind (bind (bind (settle place t (taping ready w)) (λ r w1. Gives r.0 (taping r.1 w1))) (λ x w1. bind (settle place (store (at index) x w1.state.store) w1) (λ st w2. Gives tt (holding st w2)))) (λ _ w2. row place Reading Integer p n (index + 1) w2)) got
        ∙ ap (λ b. bind (bind (settle place (if b then Traps ValueArgument else Yields (put_in (unit_of (at index)) (Whole (pos c)) w.state.store)) (taping behind w)) (λ st w2. Gives tt (holding st w2))) (λ _ w2. row place Reading Integer p n (index + 1) w2)) free

  next_unit : (index : ℕ) → suc (unit_of (at index)) ≡ unit_of (at (index + 1))
  next_unit index = omega arith

  pub all_sent : (cs : List ℕ) (n index total : ℕ) (w : World) (new : Tape) → total ≡ length cs + n → SendsLetters cs w.state.tape new → p.position + index + length cs ≤ p.size → AreCoded cs w.state.store (unit_of (at index))
      → row place Writing Integer p total index w ≡ row place Writing Integer p n (index + length cs) (taping new w)
  all_sent [] n index total w new e s fits h =
      ap (λ t. row place Writing Integer p t index w) (let f : total ≡ n = omega arith in f)
      ∙ ap (λ t. row place Writing Integer p n index (taping t w)) s
      ∙ ap (λ i. row place Writing Integer p n i (taping new w)) (let f : index ≡ index + 0 = omega arith in f)
  all_sent (c ∷ cs) n index total w new e s fits h =
      ap (λ t. row place Writing Integer p t index w) (let f : total ≡ suc (length cs + n) = omega arith in f)
      ∙ one_sent (length cs + n) index c w s.0 s.1 (omega arith) s.2 s.3 h.0
      ∙ all_sent cs n (index + 1) (length cs + n) (taping s.1 w) new refl s.4 (omega arith) (subst (AreCoded cs w.state.store) (next_unit index) h.1)
      ∙ ap (λ i. row place Writing Integer p n i (taping new w)) (let f : index + 1 + length cs ≡ index + suc (length cs) = omega arith in f)

  pub all_got : (cs : List ℕ) (n index total : ℕ) (w : World) (new : Tape) → total ≡ length cs + n → p.fixed ≡ false → GetsLetters cs w.state.tape new → p.position + index + length cs ≤ p.size
      → row place Reading Integer p total index w ≡ row place Reading Integer p n (index + length cs) (holding (with_codes cs (unit_of (at index)) w.state.store) (taping new w))
  all_got [] n index total w new e free g fits =
      ap (λ t. row place Reading Integer p t index w) (let f : total ≡ n = omega arith in f)
      ∙ ap (λ t. row place Reading Integer p n index (taping t w)) g
      ∙ ap (λ i. row place Reading Integer p n i (taping new w)) (let f : index ≡ index + 0 = omega arith in f)
  all_got (c ∷ cs) n index total w new e free g fits =
      let st = put_in (unit_of (at index)) (Whole (pos c)) w.state.store in
      ap (λ t. row place Reading Integer p t index w) (let f : total ≡ suc (length cs + n) = omega arith in f)
      ∙ one_got (length cs + n) index c w g.0 g.1 (omega arith) g.2 g.3 free
      ∙ all_got cs n (index + 1) (length cs + n) (holding st (taping g.1 w)) new refl free g.4 (omega arith)
      ∙ ap (λ i. row place Reading Integer p n i (holding (with_codes cs (unit_of (at (index + 1))) st) (taping new w))) (let f : index + 1 + length cs ≡ index + suc (length cs) = omega arith in f)
      ∙ ap (λ u. row place Reading Integer p n (index + suc (length cs)) (holding (with_codes cs u st) (taping new w))) (sym (next_unit index))

-- ---- units of the store that come or go ----

-- so many units from an index on are the variable's
record Stretched (p : Spot) (unit index size : ℕ) : Type 0 where
  pub free : p.fixed ≡ false
  pub unit_is : unit ≡ unit_of p
  pub inside : p.position + index + size ≤ p.size

stretched : (p : Spot) (word : Word) (unit index size : ℕ) → pos unit ≡ word.value → 0 < size → unit + index + size ≤ word.behind → Shows (At p) word → Stretched p unit index size
stretched p word unit index size told some fits shows = by p.fixed refl shows
  where
    is : unit ≡ unit_of p
    is = same_unit p word unit shows told

    by : (fixed : Bool) → p.fixed ≡ fixed → IsSpotWord fixed p word → Stretched p unit index size
    by true e h = absurd (let none = h.behind in omega (arith, none))
    by false e h = record { free = e; unit_is = is; inside = let behind = h.behind in omega (arith, behind, is) }

module _ (word : Word) (unit index size : ℕ) (told : pos unit ≡ word.value) (some : 0 < size) (fits : unit + index + size ≤ word.behind) (held : List Cell) (spot : IsSpot held word) where
  -- they are in the store
  all_held : unit + index + size ≤ length held
  all_held =
      let s = stretched spot.spot word unit index size told some fits spot.shows in
      let e = s.unit_is in
      let inside = s.inside in
      let last = spot.within.last in
      omega (arith, e, inside, last)

  module _ (way : Way) (moved k : ℕ) (fs : Fields) (old new : Standing) (cs : List ℕ) (as_many : k ≡ size) (few : moved ≤ length (take k (drop (unit + index) held))) where
    moved_few : moved ≤ k
    moved_few =
        let e = length-drop (unit + index) held in
        let t = all_held in
        let m = length-take-le k (drop (unit + index) held) (omega (arith, e, t)) in
        omega (arith, m)

    in_store : length cs ≡ moved → (unit + index) + length cs ≤ length held
    in_store long = let t = all_held in let m = moved_few in omega (arith, t, m)

    module _ (p : Spot) (shows : Shows (At p) word) where
      is_free : p.fixed ≡ false
      is_free = (stretched p word unit index size told some fits shows).free

      inside : length cs ≡ moved → p.position + index + length cs ≤ p.size
      inside long = let i = (stretched p word unit index size told some fits shows).inside in let m = moved_few in omega (arith, i, m)

      unit_there : unit + index ≡ p.first + (p.position + index)
      unit_there = let e = (stretched p word unit index size told some fits shows).unit_is in omega (arith, e)

    pub units_sent : way ≡ Writing → take moved (take k (drop (unit + index) held)) ≡ map coded cs → ((unread written : List Record) → SendsLetters cs (tape fs old unread written) (tape fs new unread written)) → MovesUnits way Integer word index moved fs old new held held
    units_sent is e sends p place w unread written n shows agrees taped_is =
        let behind = tape fs new unread written in
        let long : length cs ≡ moved = sym (length-map cs coded) ∙ ap length (sym e) ∙ length-take-le moved (take k (drop (unit + index) held)) few in
        let codes : take (length cs) (drop (unit + index) held) ≡ map coded cs = ap (λ v. take v (drop (unit + index) held)) long ∙ sym (take-take moved k (drop (unit + index) held) moved_few) ∙ e in
        let are : AreCoded cs w.state.store (unit + index) = are_coded cs held (unit + index) w.state.store agrees (in_store long) codes in
        subst (λ v. Advances v Integer p place w index moved n held behind) (sym is) (record {
          store = w.state.store;
          agrees = agrees;
          is = all_sent place p cs n index (moved + n) w behind (ap (λ m. m + n) (sym long)) (subst (λ t. SendsLetters cs t behind) (sym taped_is) (sends unread written)) (inside p shows long) (subst (AreCoded cs w.state.store) (unit_there p shows) are)
              ∙ ap (λ v. row place Writing Integer p n (index + v) (taping behind w)) long;
        })

    pub units_got : (units : List Cell) → way ≡ Reading → All IsLetter cs → length cs ≡ moved → units ≡ map coded cs ++ drop moved (take k (drop (unit + index) held)) → ((unread written : List Record) → GetsLetters cs (tape fs old unread written) (tape fs new unread written)) → MovesUnits way Integer word index moved fs old new held (put_mid (unit + index) k held units)
    units_got units is all long e gets p place w unread written n shows agrees taped_is =
        let behind = tape fs new unread written in
        let a = unit + index in
        let front = take a held in
        let part = take k (drop a held) in
        let back = post_of a k held in
        let at_front : length front ≡ a = let fit = in_store long in length-take-le a held (omega (arith, fit)) in
        let set_is : set_codes cs a held ≡ put_mid a k held units =
        ap (set_codes cs a) (sym (put_same a k held))
        ∙ ap (λ v. set_codes cs v (front ++ (part ++ back))) (sym at_front)
        ∙ codes_set cs front part back (omega (arith, long, few))
        ∙ ap (λ v. front ++ ((map coded cs ++ drop v part) ++ back)) long
        ∙ ap (λ v. front ++ (v ++ back)) (sym e) in
        let st = with_codes cs a w.state.store in
        subst (λ v. Advances v Integer p place w index moved n (put_mid a k held units) behind) (sym is) (record {
          store = st;
          agrees = subst (λ v. Agrees v st) set_is (agrees_codes cs a held w.state.store all (in_store long) agrees);
          is = all_got place p cs n index (moved + n) w behind (ap (λ m. m + n) (sym long)) (is_free p shows) (subst (λ t. GetsLetters cs t behind) (sym taped_is) (gets unread written)) (inside p shows long)
              ∙ ap (λ u. row place Reading Integer p n (index + length cs) (holding (with_codes cs u w.state.store) (taping behind w))) (sym (unit_there p shows))
              ∙ ap (λ v. row place Reading Integer p n (index + v) (holding st (taping behind w))) long;
        })

-- none comes or goes
pub no_units : (way : Way) (k : Kind) (word : Word) (index : ℕ) (fs : Fields) (old : Standing) (held : List Cell) → MovesUnits way k word index 0 fs old old held held
no_units way k word index fs old held p place w unread written n shows agrees taped_is = record {
  store = w.state.store;
  agrees = agrees;
  is = ap (λ t. row place way k p t index w) (let e : 0 + n ≡ n = omega arith in e)
      ∙ ap (λ i. row place way k p n i w) (let e : index ≡ index + 0 = omega arith in e)
      ∙ ap (λ t. row place way k p n (index + 0) (taping t w)) taped_is;
}
