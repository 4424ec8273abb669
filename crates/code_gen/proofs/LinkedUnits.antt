-- Sound units with ranks are a program as the law of their code asks.
use Rattle.std.proofs.Common.{◌≡◌, ℕ, zero, suc, inl, inr, Bool, true, false, true≢false, List, [], ◌∷◌, Option, Some, None, refl, sym, subst, ap, ◌∙◌, arith}
use Rattle.std.specs.Prelude.{if◌then◌else◌}
use Rattle.std.specs.List.{Contains, slice_get}
use Rattle.f66_tree.specs.Syntax.{Text, Line, Routine, Header, MainUnit, SubUnit, FuncUnit, DataUnit}
use Rattle.f66_tree.specs.Fields.{Fields}
use Rattle.f66_tree.specs.Units.{is_main}
use Rattle.f66_soundness.specs.SoundUnits.{finds_format}
use Rattle.f66_soundness.proofs.KindLemmas.{no_some, some_same}
use Rattle.f66_program.specs.Mentions.{context_of}
use Rattle.f66_program.specs.Calls.{Call, calls_in, is_called, one_further, unit_named}
use Rattle.code_gen.specs.Layout.{Layout}
use Rattle.code_gen.specs.Behaves.{IsUnit, AreUnits, IsAmong}
use Rattle.code_gen.specs.LayingOut.{layout}
use Rattle.code_gen.specs.SoundUnits.{IsPlaced}
use Rattle.code_gen.specs.Linked.{RankedIsProgram}
use Rattle.code_gen.proofs.LaidOut.{layout_fits}
use Rattle.code_gen.proofs.SoundUnits.{sound_is_coded}

contains_at : (xs : List Line) (i : ℕ) (s : Line) → slice_get xs i ≡ Some s → Contains xs s
contains_at [] i s e = no_some _ e
contains_at (x ∷ xs) zero s e = (0, omega arith, some_same e)
contains_at (x ∷ xs) (suc i) s e = let c = contains_at xs i s e in let lt = c.1 in (suc c.0, omega (arith, lt), c.2)

-- the unit of a name is there, and is called so
abbrev pub IsNamed : Text → List Routine → ℕ → Type 0
IsNamed q rs v = (r : Routine) × (slice_get rs v ≡ Some r) × (is_called q r.header ≡ true)

pub named_unit : (q : Text) (rs : List Routine) (v : ℕ) → unit_named q rs ≡ Some v → IsNamed q rs v
named_unit q [] v e = no_some _ e
named_unit q (r ∷ rs) v e = by_name (is_called q r.header) refl (unit_named q rs) (named_unit q rs) e
  where
    by_name : (b : Bool) → is_called q r.header ≡ b → (o : Option ℕ) → ((w : ℕ) → o ≡ Some w → IsNamed q rs w) → (if b then Some zero else one_further o) ≡ Some v → IsNamed q (r ∷ rs) v
    by_name true called o there is = subst (IsNamed q (r ∷ rs)) (some_same is) (r, refl, called)
    by_name false called None there is = no_some _ is
    by_name false called (Some w) there is = subst (IsNamed q (r ∷ rs)) (some_same is) (there w refl)

pub no_main : (q : Text) (h : Header) → is_called q h ≡ true → is_main h ≡ false
no_main q MainUnit e = absurd (true≢false (sym e))
no_main q (SubUnit x ds) e = refl
no_main q (FuncUnit t x ds) e = refl
no_main q DataUnit e = refl

are_units : (y : Layout) (bound : ℕ) (plans : List Fields) (us : List ℕ) → ((u : ℕ) → IsAmong u us → IsUnit y u bound plans) → AreUnits y bound plans us
are_units y bound plans [] h = tt
are_units y bound plans (u ∷ us) h = (h u (inl refl), are_units y bound plans us (λ v m. h v (inr m)))

pub ranked_is_program : RankedIsProgram
ranked_is_program rs l lines plan presets bound rank others plans p =
    let us = l.main ∷ others in
    let y = layout l lines plan presets bound rank us in
    let fits = layout_fits l lines plan presets bound rank us p.distinct in
    let placed : (u : ℕ) (r : Routine) → slice_get rs u ≡ Some r → IsPlaced y u r = λ u r here.
    let same = p.linked.contexts u r here in
    let calls : (s : Line) (k : Call) → Contains (calls_in (l.context u) s.act) k → Contains (calls_in (context_of r) s.act) k = λ s k m. subst (λ c. Contains (calls_in c s.act) k) same m in
    record {
      context = same;
      lines = p.codes u r here;
      formats = λ i s is. ap (λ c. finds_format c.notes s.act) same ∙ p.formats u r i s here is;
      below = λ i s k is m v found.
          let to = sym (p.linked.finds k.name) ∙ found in
          fits.calls v u (inr (p.called k.name v to)) (p.ranks u v (record { unit = r; line = s; call = k; here = here; stands = contains_at r.lines i s is; called = calls s k m; to = to }));
      results = λ i s k is m by v found. p.results k.name v (sym (p.linked.finds k.name) ∙ found);
    } in
    record {
      main = ap (λ c. is_main c.header) (p.linked.contexts l.main p.linked.main.0 p.linked.main.1) ∙ p.linked.main.2;
      entered = fits.entered;
      units = are_units y bound plans us (λ u m.
          let r = p.there u m in
          record {
            laid = p.laid u m;
            above = fits.above u;
            below = fits.below u;
            coded = sound_is_coded y u r.0 (p.sound u r.0 r.1) (placed u r.0 r.1);
            room = fits.room u;
            planned = p.planned u;
          });
      found = λ x v is.
          let to = sym (p.linked.finds x) ∙ is in
          let r = named_unit x rs v to in
          (p.called x v to, ap (λ c. is_main c.header) (p.linked.contexts v r.0 r.1) ∙ no_main x r.0.header r.2);
      presets = p.below;
      initial = p.initial;
    }
