-- Records that are taken one after the other, and what may follow them.
use Rattle.std.proofs.Common.{◌≡◌, ℕ, Bool, true, false, List, [], ◌∷◌, ◌++◌, length, take, drop, refl, sym, ap, ◌∙◌, subst, arith, append_assoc}
use Rattle.std.proofs.lemmas.List.{append-nil}
use Rattle.std.proofs.lemmas.Grind.{flat_map-append}
use Rattle.std.specs.declared.option.Option.{Option}
use Rattle.ports.specs.Records.{got_records, output_bytes}
use Rattle.f66_tree.specs.World.{Record}
use Rattle.record_intake.specs.Intakes.{Content, MayCome, Grows, joined, Pieces, Gets, IsRecord, IsOver}
use Rattle.record_intake.proofs.Asking.{consumes_none, consumes_on, joined_on, pieces_on, gets_nothing, gets_by}
use Rattle.record_flow.specs.Flows.{MayFollow, Takes, Reads, Flows}

pub takes_nothing : (c : Content) → Takes c c [] []
takes_nothing c = record { records = λ failed later may. ap (λ (l : List ℕ). got_records failed (l ++ later)) (append-nil c.hand); ended = λ e. (refl, e) }

-- bytes were got, and no record was taken
pub takes_none : (old new : Content) (got : List ℕ) → Grows old new got → Takes old new got []
takes_none old new got g = record { records = λ failed later may. ap (λ (l : List ℕ). got_records failed (l ++ later)) (sym g.hand); ended = g.ended }

-- the first record was taken
pub takes_one : (old mid new : Content) (got : List ℕ) (size next : ℕ) → Grows old mid got → IsRecord mid size next → new.hand ≡ drop next mid.hand → new.ended ≡ mid.ended → Takes old new got (take size mid.hand ∷ [])
takes_one old mid new got size next g is hand ended =
    record {
      records = λ failed later may.
          ap (λ (l : List ℕ). got_records failed (l ++ later)) (sym g.hand)
          ∙ is.first failed later (subst (λ b. MayCome b failed later) ended may)
          ∙ ap (λ (l : List ℕ). take size mid.hand ∷ got_records failed (l ++ later)) (sym hand);
      ended = λ e. ((g.ended e).0, ended ∙ (g.ended e).1);
    }

may_back : (middle last failed : Bool) (got later : List ℕ) → (middle ≡ true → (got ≡ []) × (last ≡ true)) → MayCome last failed later → MayCome middle failed (got ++ later)
may_back true last failed got later kept may =
    let k = kept refl in
    let m : MayCome true failed later = subst (λ b. MayCome b failed later) k.1 may in
    (m.0, ap (λ (l : List ℕ). l ++ later) k.0 ∙ m.1)
may_back false last failed got later kept may = tt

pub takes_on : (a b c : Content) (g h : List ℕ) (t u : List Record) → Takes a b g t → Takes b c h u → Takes a c (g ++ h) (t ++ u)
takes_on a b c g h t u x y =
    record {
      records = λ failed later may.
          ap (got_records failed) (ap (λ (l : List ℕ). l ++ later) (sym (append_assoc a.hand g h)) ∙ append_assoc (a.hand ++ g) h later)
          ∙ x.records failed (h ++ later) (may_back b.ended c.ended failed h later y.ended may)
          ∙ ap (λ (l : List ℕ). t ++ got_records failed l) (sym (append_assoc b.hand h later))
          ∙ ap (λ (l : List Record). t ++ l) (y.records failed later may)
          ∙ sym (append_assoc t u (got_records failed (c.hand ++ later)));
      ended = λ e. let k = x.ended e in let m = y.ended k.1 in (ap (λ (l : List ℕ). l ++ h) k.0 ∙ m.0, m.1);
    }

-- what may follow behind the records that were taken
pub follows_back : (a b : Content) (g : List ℕ) (t unread : List Record) → Takes a b g t → MayFollow b unread → MayFollow a (t ++ unread)
follows_back a b g t unread x m =
    record {
      failed = m.failed;
      later = g ++ m.later;
      may = may_back a.ended b.ended m.failed g m.later x.ended m.may;
      is = ap (λ (l : List Record). t ++ l) m.is ∙ sym (x.records m.failed m.later m.may) ∙ ap (got_records m.failed) (append_assoc a.hand g m.later);
    }

-- at the end of the input nothing follows
pub follows_none : (c : Content) (unread : List Record) → IsOver c → MayFollow c unread → unread ≡ []
follows_none c unread over m =
    let k : MayCome true m.failed m.later = subst (λ b. MayCome b m.failed m.later) over.ended m.may in
    m.is ∙ ap (λ b. got_records b (c.hand ++ m.later)) k.0 ∙ ap (λ (l : List ℕ). got_records false (c.hand ++ l)) k.1 ∙ ap (λ (l : List ℕ). got_records false (l ++ [])) over.none

-- ---- reads ----

module _ (A B : List Record → Type 0) (t : List Record) (by : (rs : List Record) → B rs → A (t ++ rs)) where
  pieces_behind : (a b : Content) (g behind : List ℕ) → ((later : List ℕ) → got_records true (a.hand ++ g ++ later) ≡ t ++ got_records true (b.hand ++ later)) → (ps : List (List ℕ)) → Pieces B (b.hand ++ behind) ps → Pieces A (a.hand ++ g ++ behind) ps
  pieces_behind a b g behind same [] h = tt
  pieces_behind a b g behind same (p ∷ ps) h = (
    subst A (sym (same behind)) (by (got_records true (b.hand ++ behind)) h.0),
    h.1,
    subst (λ (l : List ℕ). Pieces A l ps) (sym (append_assoc (a.hand ++ g) behind p)) (pieces_behind a b g (behind ++ p) same ps (subst (λ (l : List ℕ). Pieces B l ps) (append_assoc b.hand behind p) h.2)),
  )

  -- reads behind others
  pub gets_on : {S : Type 0} (i j k : S) (a b : Content) (g h : List ℕ) → (b.ended ≡ false → (later : List ℕ) → got_records true (a.hand ++ g ++ later) ≡ t ++ got_records true (b.hand ++ later)) → (a.ended ≡ true → b.ended ≡ true) → Gets A i j a g → Gets B j k b h → Gets A i k a (g ++ h)
  gets_on i j k a b g h same ended x y =
      record {
        pieces = x.pieces ++ y.pieces;
        all = joined_on x.pieces y.pieces ∙ ap (λ (l : List ℕ). l ++ joined y.pieces) x.all ∙ ap (λ (l : List ℕ). g ++ l) y.all;
        asked = pieces_on A a.hand x.pieces y.pieces x.asked (subst (λ (l : List ℕ). Pieces A (a.hand ++ l) y.pieces) (sym x.all) (behind b.ended refl));
        idle = λ e. let n = none_of x.pieces y.pieces e in y.idle n.1 ∙ x.idle n.0;
        over = λ e. ap (λ (l : List (List ℕ)). l ++ y.pieces) (x.over e) ∙ y.over (ended e);
      }
    where
      none_of : (ps qs : List (List ℕ)) → ps ++ qs ≡ [] → (ps ≡ []) × (qs ≡ [])
      none_of [] qs e = (refl, e)
      none_of (p ∷ ps) qs e = let none : length (p ∷ (ps ++ qs)) ≡ 0 = ap length e in absurd (omega (arith, none))

      behind : (over : Bool) → b.ended ≡ over → Pieces A (a.hand ++ g) y.pieces
      behind true e = subst (Pieces A (a.hand ++ g)) (sym (y.over e)) tt
      behind false e = subst (λ (l : List ℕ). Pieces A l y.pieces) (append-nil (a.hand ++ g)) (pieces_behind a b g [] (same e) y.pieces (subst (λ (l : List ℕ). Pieces B l y.pieces) (sym (append-nil b.hand)) y.asked))

module _ {S : Type 0} (left : S → Option (List ℕ)) where
  pub reads_nothing : (A : List Record → Type 0) (i : S) (c : Content) → Reads left A i i c c []
  reads_nothing A i c = record { got = []; takes = takes_nothing c; consumes = consumes_none (left i); gets = gets_nothing A i c; at_end = λ h. h }

  -- the same reads, where more is lacking than was
  pub reads_by : {A B : List Record → Type 0} {i j : S} {a b : Content} {t : List Record} → ((rs : List Record) → A rs → B rs) → Reads left A i j a b t → Reads left B i j a b t
  reads_by by x = record { got = x.got; takes = x.takes; consumes = x.consumes; gets = gets_by by x.gets; at_end = x.at_end }

  pub reads_on : {A B : List Record → Type 0} (i j k : S) (a b c : Content) (t u : List Record) → ((rs : List Record) → B rs → A (t ++ rs)) → Reads left A i j a b t → Reads left B j k b c u → Reads left A i k a c (t ++ u)
  reads_on {A} {B} i j k a b c t u by x y =
      record {
        got = x.got ++ y.got;
        takes = takes_on a b c x.got y.got t u x.takes y.takes;
        consumes = consumes_on (left i) (left j) (left k) x.got y.got x.consumes y.consumes;
        gets = gets_on A B t by i j k a b x.got y.got (λ going later. x.takes.records true later (subst (λ over. MayCome over true later) (sym going) tt)) (λ e. (x.takes.ended e).1) x.gets y.gets;
        at_end = λ h. y.at_end (x.at_end h);
      }

  module _ {K : Type 0} (puts : K → List ℕ → K → Type 0) where
    pub flows_nothing : (A : List Record → Type 0) → ((s : K) → puts s [] s) → (i : S) (o : K) (c : Content) → Flows left puts A i i o o c c [] []
    flows_nothing A nothing i o c = record { reads = reads_nothing A i c; sent = nothing o }

    pub flows_by : {A B : List Record → Type 0} {i j : S} {o p : K} {a b : Content} {t v : List Record} → ((rs : List Record) → A rs → B rs) → Flows left puts A i j o p a b t v → Flows left puts B i j o p a b t v
    flows_by by x = record { reads = reads_by by x.reads; sent = x.sent }

    pub flows_on : {A B : List Record → Type 0} → ((a b c : K) (xs ys : List ℕ) → puts a xs b → puts b ys c → puts a (xs ++ ys) c) → (i j k : S) (o p q : K) (a b c : Content) (t u v w : List Record) → ((rs : List Record) → B rs → A (t ++ rs)) → Flows left puts A i j o p a b t v → Flows left puts B j k p q b c u w → Flows left puts A i k o q a c (t ++ u) (v ++ w)
    flows_on in_a_row i j k o p q a b c t u v w by x y =
        record { reads = reads_on i j k a b c t u by x.reads y.reads; sent = subst (λ l. puts o l q) (sym (flat_map-append (λ record_bytes. record_bytes ++ 10 ∷ []) v w)) (in_a_row o p q (output_bytes v) (output_bytes w) x.sent y.sent) }

    -- and no record more
    pub flows_end : {A B : List Record → Type 0} → ((a b c : K) (xs ys : List ℕ) → puts a xs b → puts b ys c → puts a (xs ++ ys) c) → (i j k : S) (o p q : K) (a b c : Content) (t v : List Record) → ((rs : List Record) → B rs → A (t ++ rs)) → Flows left puts A i j o p a b t v → Flows left puts B j k p q b c [] [] → Flows left puts A i k o q a c t v
    flows_end {A} in_a_row i j k o p q a b c t v by x y =
        subst (λ l. Flows left puts A i k o q a c l v) (append-nil t) (subst (λ l. Flows left puts A i k o q a c (t ++ []) l) (append-nil v) (flows_on in_a_row i j k o p q a b c t [] v [] by x y))

    -- a record was put
    pub flows_put : (A : List Record → Type 0) (i : S) (o q : K) (c : Content) (line : List ℕ) → puts o (line ++ 10 ∷ []) q → Flows left puts A i i o q c c [] (line ∷ [])
    flows_put A i o q c line put = record { reads = reads_nothing A i c; sent = subst (λ l. puts o l q) (sym (append-nil (line ++ 10 ∷ []))) put }
