-- The whole text, as gather answers it.
use Rattle.std.proofs.Common.{◌≡◌, ℕ, true, false, List, [], ◌++◌, map, refl, sym, ◌∙◌, ap, subst, Some, None, Ok, Err}
use Rattle.std.specs.Prelude.{Option, Result, IsErr}
use Rattle.std.specs.Result.{IsErrAnd}
use Rattle.std.proofs.lemmas.Result.{err_from_is_err_and}
use Rattle.ground.specs.declared.token.Dialect.{Dialect}
use Rattle.macro_define.specs.declared.gathering.Gathering.{Gathering}
use Rattle.macro_define.specs.declared.whole_text.Gathered.{Gathered}
use Rattle.macro_define.specs.declared.refusal.TextRefusal.{TextRefusal}
use Rattle.macro_define.specs.declared.refusal.TextRefusal.TheVariants as refusals
use Rattle.macro_define.specs.Answers.{Answers, Known, Holds, InTurn, Through, knows}
use Rattle.macro_define.specs.Expansion.{Stop, GatherState, fetched_file, file_made, gathered, include_made, first_gathering, text_made}
use Rattle.macro_define.specs.Gathered.{Fetches, Gathers, world}
use Rattle.macro_define.specs.GatherAnswers.{IsAnswer, IsGathered}
use Rattle.macro_define.specs.Made.{and_then}

abbrev fetched_first : List ℕ → GatherState → Result (List ℕ × GatherState) Stop
fetched_first name w = fetched_file (record { file = 0; line = 0 }) false false name name w

text-refused : (d : Dialect) (depth : ℕ) (name : List ℕ) (w v : GatherState) (y : Result GatherState Stop) (e : TextRefusal)
    → Fetches (fetched_first name w) (Err e) v → Gathers {B = Unit {0}} (text_made d depth name w) (Err e) y v.answers
text-refused d depth name w v y (refusals.Fault fault n) h = ap (λ x. and_then x (λ p. file_made d (include_made d depth name) true name (p.0) (p.1))) h
text-refused d depth name w v y refusals.Library h = Prim.tt
text-refused d depth name w v y refusals.Memory h = Prim.tt

pub text-failed : (d : Dialect) (depth : ℕ) (name : List ℕ) (w v : GatherState) (y : Result GatherState Stop) (e : TextRefusal) (r : Result (Unit {0}) TextRefusal)
    → Fetches (fetched_first name w) (Err e) v → IsErr r × IsErrAnd r (λ f. f ≡ e) → Gathers (text_made d depth name w) r y v.answers
text-failed d depth name w v y e r h is =
    let p = err_from_is_err_and r is.1 in
    let same : r ≡ Err e = p.1 ∙ (λ i. Err (p.2 i)) in
    subst (λ (q : Result (Unit {0}) TextRefusal). Gathers (text_made d depth name w) q y v.answers) (sym same) (text-refused d depth name w v y e h)

pub text-goes : (d : Dialect) (depth : ℕ) (name : List ℕ) (w v : GatherState) (text : List ℕ) (r : Result (Unit {0}) TextRefusal) (y : Result GatherState Stop) (after : Answers)
    → fetched_first name w ≡ Ok (text, v) → Gathers (file_made d (include_made d depth name) true name text v) r y after → Gathers (text_made d depth name w) r y after
text-goes d depth name w v text r y after h on =
    let goes : text_made d depth name w ≡ file_made d (include_made d depth name) true name text v =
    ap (λ x. and_then x (λ p. file_made d (include_made d depth name) true name (p.0) (p.1))) h in
    subst (λ x. Gathers x r y after) (sym goes) on

-- a fact of what is known before and after, as one of some answers
pub through-gathered : (files : Option (List ℕ → Option (List ℕ))) (F : List (List ℕ) → Type 0) (d : Dialect) (name : List ℕ) (result : Result Gathered TextRefusal) (P : Answers → Answers → Type 0)
    → Through files F P → ((known : Known) (b : Answers) → P (knows known []) b → IsAnswer (gathered d name known) b.fetched result) → IsGathered files F d name result
through-gathered None F d name result P h on = record {
  known = InTurn (h.1.1.0 ++ []);
  of = (h.1.1.0 ++ [], refl);
  names = h.0;
  fetched = h.1.0;
  by = on (InTurn (h.1.1.0 ++ [])) (knows (InTurn []) h.0) (h.1.1.1 [] []);
}
through-gathered (Some held) F d name result P h on = record {
  known = Holds held;
  of = refl;
  names = h.0;
  fetched = h.1.0;
  by = on (Holds held) (knows (Holds held) h.0) (h.1.1 []);
}

answers-refused : (told other left : Result GatherState Stop) (after : Answers) (e : TextRefusal) → other ≡ told → Gathers {B = Unit {0}} told (Err e) left after → IsAnswer other after.fetched (Err e)
answers-refused told other left after (refusals.Fault fault name) same h = same ∙ h
answers-refused told other left after refusals.Library same h = Prim.tt
answers-refused told other left after refusals.Memory same h = Prim.tt

pub answers-failed : (told other left : Result GatherState Stop) (after : Answers) (e : TextRefusal) (r : Result Gathered TextRefusal) → other ≡ told → Gathers {B = Unit {0}} told (Err e) left after
    → IsErr r × IsErrAnd r (λ f. f ≡ e) → IsAnswer other after.fetched r
answers-failed told other left after e r same h is =
    let p = err_from_is_err_and r is.1 in
    subst (λ (q : Result Gathered TextRefusal). IsAnswer other after.fetched q) (sym (p.1 ∙ (λ i. Err (p.2 i)))) (answers-refused told other left after e same h)

pub answers-memory : (told : Result GatherState Stop) (names : List (List ℕ)) (r : Result Gathered TextRefusal) → IsErr r × IsErrAnd r (λ f. f ≡ refusals.Memory) → IsAnswer told names r
answers-memory told names r is =
    let p = err_from_is_err_and r is.1 in
    subst (λ (q : Result Gathered TextRefusal). IsAnswer told names q) (sym (p.1 ∙ (λ i. Err (p.2 i)))) Prim.tt

-- what a text starts with
pub world-start : (g : Gathering) (known : Known) → g.output.tokens.items ≡ [] → g.output.left ≡ 200000 → g.macros.entries ≡ [] → g.files.keys ≡ [] → g.room ≡ 4194304
    → first_gathering known ≡ world g (knows known [])
world-start g known tokens left macros files room = λ i. record {
  made = record { tokens = sym tokens i; left = sym left i };
  macros = map (λ e. (e.0.items, e.1.items)) (sym macros i);
  files = map (λ k. k.items) (sym files i);
  room = sym room i;
  answers = knows known [];
}

-- the definition, from what a text starts with
pub gathered-start : (d : Dialect) (name bytes : List ℕ) (g : Gathering) (known : Known) → bytes ≡ name
    → g.output.tokens.items ≡ [] → g.output.left ≡ 200000 → g.macros.entries ≡ [] → g.files.keys ≡ [] → g.room ≡ 4194304
    → gathered d name known ≡ text_made d 10 bytes (world g (knows known []))
gathered-start d name bytes g known same tokens left macros files room =
    ap (text_made d 10 name) (world-start g known tokens left macros files room) ∙ ap (λ n. text_made d 10 n (world g (knows known []))) (sym same)

-- the whole text's tokens and files
pub answers-whole : (told other : Result GatherState Stop) (g : Gathering) (b : Answers) (all : Gathered) → other ≡ told → told ≡ Ok (world g b)
    → all.tokens.items ≡ g.output.tokens.items → all.files.items ≡ map (λ k. k.items) g.files.keys → IsAnswer other b.fetched (Ok all)
answers-whole told other g b all same h tokens files = (world g b, (same ∙ h, tokens, files, refl))
