-- What is emitted, one part after another.
use Rattle.std.proofs.Common.{◌≡◌, ℕ, ◌+◌, List, [], ◌∷◌, ◌++◌, refl, sym, ap, ◌∙◌, append_assoc, arith}
use Rattle.ground.specs.declared.place.Place.{Place}
use Rattle.f66_tree.specs.declared.editing.Way.{Way}
use Rattle.f66_tree.specs.Fields.{Fields}
use Rattle.f66_tree.specs.Syntax.{Formula, Act, When, Goto, Format, Line, Par, Entries, unlabelled_line, labelled_line}
use Rattle.routes.specs.Routes.{Route, Plain, BreakIf, Break, Ring, Cycle, Block, InTurn, Labelled, Transfer, Routes, NoRoute, AndRoute}
use Rattle.routes.specs.Code.{Behind, label_behind, jump, here, transfer, labels, all_labels, code_of, all_code}
use Rattle.efl_emit.specs.Emitted.{Emission, Puts, Makes, EmittedIn, Emitted}

pub both : {made : ℕ → ℕ} {ls : Behind} {a b c : Emission} (f g : Routes → Routes) → EmittedIn made f ls a b → EmittedIn made g ls b c → EmittedIn made (λ rest. f (g rest)) ls a c
both f g x y = record { labels = λ rest. x.labels (g rest) ∙ y.labels rest; lines = λ rest next. x.lines (g rest) next ∙ y.lines rest next }

pub put_before : (x : Line) (a b : Emission) (next : List Line) → Puts x a b → a.lines ++ x ∷ next ≡ b.lines ++ next
put_before x a b next h = sym (ap (λ l. l ++ next) h.lines ∙ append_assoc a.lines (x ∷ []) next)

-- a route of one line that makes no label
one_line : {made : ℕ → ℕ} {ls : Behind} {a b : Emission} (r : Route) (x : Line) → labels r ≡ 0 → ((n : ℕ) (next : List Line) → code_of made r n ls next ≡ x ∷ next) → Puts x a b → EmittedIn made (AndRoute r) ls a b
one_line {made} {ls} {a} {b} r x none code h = record {
  labels = λ rest. omega (arith, none, h.made);
  lines = λ rest next.
      let e : a.made + labels r ≡ b.made = omega (arith, none, h.made) in
      ap (λ l. a.lines ++ l) (code a.made (all_code made rest (a.made + labels r) ls next))
      ∙ ap (λ n. a.lines ++ x ∷ all_code made rest n ls next) e
      ∙ put_before x a b (all_code made rest b.made ls next) h;
}

pub put : {made : ℕ → ℕ} {ls : Behind} {a b : Emission} (p : Place) (act : Act) → Puts (unlabelled_line p act) a b → EmittedIn made (AndRoute (Plain p act)) ls a b
put p act h = one_line (Plain p act) (unlabelled_line p act) refl (λ n next. refl) h

pub put_break_if : {made : ℕ → ℕ} {ls : Behind} {a b : Emission} (p : Place) (e : Formula) (k l : ℕ) → label_behind ls k ≡ l → Puts (unlabelled_line p (When e (Goto l))) a b → EmittedIn made (AndRoute (BreakIf p e k)) ls a b
put_break_if p e k l is h = one_line (BreakIf p e k) (unlabelled_line p (When e (Goto l))) refl (λ n next. ap (λ m. unlabelled_line p (When e (Goto m)) ∷ next) is) h

pub put_break : {made : ℕ → ℕ} {ls : Behind} {a b : Emission} (p : Place) (k l : ℕ) → label_behind ls k ≡ l → Puts (jump p l) a b → EmittedIn made (AndRoute (Break p k)) ls a b
put_break p k l is h = one_line (Break p k) (jump p l) refl (λ n next. ap (λ m. jump p m ∷ next) is) h

pub ringed : {made : ℕ → ℕ} {ls : Behind} {a b c d : Emission} (p : Place) (l : ℕ) (f : Routes → Routes) → Makes made l a b → EmittedIn made f (l ∷ ls) b c → Puts (here l p) c d → EmittedIn made (AndRoute (Ring p (f NoRoute))) ls a d
ringed {made} {ls} {a} {b} {c} {d} p l f m x h =
    let e : a.made + (all_labels (f NoRoute) + 1) ≡ d.made = omega (arith, m.made, x.labels NoRoute, h.made) in
    record {
      labels = λ rest. omega (arith, e);
      lines = λ rest next.
          let then_code = all_code made rest d.made ls next in
          ap (λ n. a.lines ++ all_code made (f NoRoute) (a.made + 1) (made a.made ∷ ls) (here (made a.made) p ∷ all_code made rest n ls next)) e
          ∙ ap (λ v. a.lines ++ all_code made (f NoRoute) (a.made + 1) (v ∷ ls) (here v p ∷ then_code)) (sym m.label)
          ∙ ap (λ n. a.lines ++ all_code made (f NoRoute) n (l ∷ ls) (here l p ∷ then_code)) (sym m.made)
          ∙ ap (λ v. v ++ all_code made (f NoRoute) b.made (l ∷ ls) (here l p ∷ then_code)) (sym m.lines)
          ∙ x.lines NoRoute (here l p ∷ then_code)
          ∙ put_before (here l p) c d then_code h;
    }

pub cycled : {made : ℕ → ℕ} {ls : Behind} {a b c d e i j m : Emission} (p : Place) (h l : ℕ) (f g : Routes → Routes) →
    Makes made h a b → Makes made l b c → Puts (here h p) c d → EmittedIn made f (l ∷ ls) d e → EmittedIn made g (l ∷ ls) e i → Puts (jump p h) i j → Puts (here l p) j m →
    EmittedIn made (AndRoute (Cycle p (f NoRoute) (g NoRoute))) ls a m
cycled {made} {ls} {a} {b} {c} {d} {e} {i} {j} {m} p h l f g mh ml top x y back behind =
    let d_made : d.made ≡ a.made + 2 = omega (arith, mh.made, ml.made, top.made) in
    let e_made : a.made + 2 + all_labels (f NoRoute) ≡ e.made = omega (arith, d_made, x.labels NoRoute) in
    let m_made : a.made + (all_labels (f NoRoute) + all_labels (g NoRoute) + 2) ≡ m.made = omega (arith, e_made, y.labels NoRoute, back.made, behind.made) in
    let next_label : made (a.made + 1) ≡ l = sym (ml.label ∙ ap made mh.made) in
    record {
      labels = λ rest. omega (arith, m_made);
      lines = λ rest next.
          let then_code = all_code made rest m.made ls next in
          let last = λ (v w : ℕ). jump p v ∷ here w p ∷ then_code in
          let inner = λ (v w n : ℕ). all_code made (g NoRoute) n (w ∷ ls) (last v w) in
          let outer = λ (v w n k : ℕ). here v p ∷ all_code made (f NoRoute) k (w ∷ ls) (inner v w n) in
          let first = a.made + 2 + all_labels (f NoRoute) in
          ap (λ n. a.lines ++ here (made a.made) p ∷ all_code made (f NoRoute) (a.made + 2) (made (a.made + 1) ∷ ls) (all_code made (g NoRoute) first (made (a.made + 1) ∷ ls) (jump p (made a.made) ∷ here (made (a.made + 1)) p ∷ all_code made rest n ls next))) m_made
          ∙ ap (λ v. a.lines ++ outer v (made (a.made + 1)) first (a.made + 2)) (sym mh.label)
          ∙ ap (λ w. a.lines ++ outer h w first (a.made + 2)) next_label
          ∙ ap (λ n. a.lines ++ outer h l n (a.made + 2)) e_made
          ∙ ap (λ k. a.lines ++ outer h l e.made k) (sym d_made)
          ∙ ap (λ v. v ++ outer h l e.made d.made) (sym (ml.lines ∙ mh.lines))
          ∙ put_before (here h p) c d (all_code made (f NoRoute) d.made (l ∷ ls) (inner h l e.made)) top
          ∙ x.lines NoRoute (inner h l e.made)
          ∙ y.lines NoRoute (last h l)
          ∙ put_before (jump p h) i j (here l p ∷ then_code) back
          ∙ put_before (here l p) j m then_code behind;
    }

-- a route that is a list
listed : {made : ℕ → ℕ} {ls : Behind} {a b : Emission} (r : Route) (rs : Routes) → labels r ≡ all_labels rs → ((n : ℕ) (next : List Line) → code_of made r n ls next ≡ all_code made rs n ls next) →
    (f : Routes → Routes) → rs ≡ f NoRoute → EmittedIn made f ls a b → EmittedIn made (AndRoute r) ls a b
listed {made} {ls} {a} {b} r rs same code f is x =
    let e : a.made + labels r ≡ b.made = omega (arith, same, ap all_labels is, x.labels NoRoute) in
    record {
      labels = λ rest. omega (arith, e);
      lines = λ rest next.
          ap (λ n. a.lines ++ code_of made r a.made ls (all_code made rest n ls next)) e
          ∙ ap (λ l. a.lines ++ l) (code a.made (all_code made rest b.made ls next))
          ∙ ap (λ v. a.lines ++ all_code made v a.made ls (all_code made rest b.made ls next)) is
          ∙ x.lines NoRoute (all_code made rest b.made ls next);
    }

pub in_turn : {made : ℕ → ℕ} {ls : Behind} {a b : Emission} (f : Routes → Routes) → EmittedIn made f ls a b → EmittedIn made (AndRoute (InTurn (f NoRoute))) ls a b
in_turn f x = listed (InTurn (f NoRoute)) (f NoRoute) refl (λ n next. refl) f refl x

pub blocked : {made : ℕ → ℕ} {ls : Behind} {a b : Emission} (f : Routes → Routes) → EmittedIn made f ls a b → EmittedIn made (AndRoute (Block (f NoRoute))) ls a b
blocked f x = listed (Block (f NoRoute)) (f NoRoute) refl (λ n next. refl) f refl x

pub marked : {made : ℕ → ℕ} {ls : Behind} {a b c : Emission} (p : Place) (l : ℕ) (r : Route) → Puts (here l p) a b → EmittedIn made (AndRoute r) ls b c → EmittedIn made (AndRoute (Labelled l p r)) ls a c
marked {made} {ls} {a} {b} {c} p l r h x = record {
  labels = λ rest. omega (arith, h.made, x.labels rest);
  lines = λ rest next.
      ap (λ n. a.lines ++ here l p ∷ code_of made r n ls (all_code made rest (n + labels r) ls next)) (sym h.made)
      ∙ put_before (here l p) a b (code_of made r b.made ls (all_code made rest (b.made + labels r) ls next)) h
      ∙ x.lines rest next;
}

pub transferred : {made : ℕ → ℕ} {ls : Behind} {a b c d : Emission} (p : Place) (way : Way) (u : Par) (fs : Fields) (es : Entries) (l : ℕ) →
    Makes made l a b → Puts (unlabelled_line p (transfer way u l es)) b c → Puts (labelled_line l p (Format fs)) c d → EmittedIn made (AndRoute (Transfer p way u fs es)) ls a d
transferred {made} {ls} {a} {b} {c} {d} p way u fs es l m x y =
    let e : a.made + 1 ≡ d.made = omega (arith, m.made, x.made, y.made) in
    record {
      labels = λ rest. omega (arith, e);
      lines = λ rest next.
          let then_code = all_code made rest d.made ls next in
          ap (λ n. a.lines ++ unlabelled_line p (transfer way u (made a.made) es) ∷ labelled_line (made a.made) p (Format fs) ∷ all_code made rest n ls next) e
          ∙ ap (λ v. a.lines ++ unlabelled_line p (transfer way u v es) ∷ labelled_line v p (Format fs) ∷ then_code) (sym m.label)
          ∙ ap (λ v. v ++ unlabelled_line p (transfer way u l es) ∷ labelled_line l p (Format fs) ∷ then_code) (sym m.lines)
          ∙ put_before (unlabelled_line p (transfer way u l es)) b c (labelled_line l p (Format fs) ∷ then_code) x
          ∙ put_before (labelled_line l p (Format fs)) c d then_code y;
    }

-- ---- within whatever rings ----

pub both_emitted : {made : ℕ → ℕ} {a b c : Emission} (f g : Routes → Routes) → Emitted made f a b → Emitted made g b c → Emitted made (λ rest. f (g rest)) a c
both_emitted f g x y = record { within = λ ls. both f g (x.within ls) (y.within ls) }

pub put_emitted : {made : ℕ → ℕ} {a b : Emission} (p : Place) (act : Act) → Puts (unlabelled_line p act) a b → Emitted made (AndRoute (Plain p act)) a b
put_emitted p act h = record { within = λ ls. put p act h }

-- ---- while a list is gone over ----

-- so far: what f puts is what was added, and then what g puts
pub record SoFar (made : ℕ → ℕ) (f g : Routes → Routes) (ls : Behind) (before now : Emission) : Type 0 where
  pub labels : (rest : Routes) → before.made + all_labels (f rest) ≡ now.made + all_labels (g rest)
  pub lines : (rest : Routes) (next : List Line) → before.lines ++ all_code made (f rest) before.made ls next ≡ now.lines ++ all_code made (g rest) now.made ls next

pub one_more : {made : ℕ → ℕ} {ls : Behind} {a b c : Emission} (f g h : Routes → Routes) → SoFar made f (λ rest. h (g rest)) ls a b → EmittedIn made h ls b c → SoFar made f g ls a c
one_more f g h x y = record { labels = λ rest. x.labels rest ∙ y.labels (g rest); lines = λ rest next. x.lines rest next ∙ y.lines (g rest) next }

pub all_done : {made : ℕ → ℕ} {ls : Behind} {a b : Emission} (f : Routes → Routes) → SoFar made f (λ rest. rest) ls a b → EmittedIn made f ls a b
all_done f x = record { labels = x.labels; lines = x.lines }

-- the first of those left, as a part of its own
pub split_first : {made : ℕ → ℕ} {f g h : Routes → Routes} {ls : Behind} {a b : Emission} → ((rest : Routes) → g rest ≡ h rest) → SoFar made f g ls a b → SoFar made f h ls a b
split_first {made} {ls = ls} {b = b} same x = record {
  labels = λ rest. x.labels rest ∙ ap (λ v. b.made + all_labels v) (same rest);
  lines = λ rest next. x.lines rest next ∙ ap (λ v. b.lines ++ all_code made v b.made ls next) (same rest);
}
