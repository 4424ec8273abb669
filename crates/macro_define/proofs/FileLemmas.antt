-- What the tokens of a file and its includes make, step by step.
use Rattle.std.proofs.Common.{◌≡◌, ℕ, zero, suc, ◌-◌, ◌==◌, ◌≤◌, Bool, true, false, nat_lt, List, [], ◌∷◌, length, refl, sym, ◌∙◌, ap, subst, arith, Some, None, Ok, Err, true≢false}
use Rattle.std.specs.Prelude.{Option, Result, IsErr}
use Rattle.std.specs.Result.{IsErrAnd}
use Rattle.std.proofs.lemmas.Result.{err_from_is_err_and}
use Rattle.ground.specs.declared.fault.Fault.{Fault}
use Rattle.ground.specs.declared.place.Place.{Place}
use Rattle.ground.specs.declared.token.Dialect.{Dialect}
use Rattle.ground.specs.declared.token.Token.{Token}
use Rattle.free_scan.specs.Lexemes.{Reading}
use Rattle.free_scan.specs.Tokens.{scanned}
use Rattle.macro_define.specs.declared.defines.FirstWord.{FirstWord}
use Rattle.macro_define.specs.declared.defines.FirstWord.TheVariants.{Include, Other}
use Rattle.macro_define.specs.declared.refusal.TextRefusal.{TextRefusal}
use Rattle.macro_define.specs.declared.refusal.TextRefusal.TheVariants as refusals
use Rattle.macro_define.specs.Answers.{Answers}
use Rattle.macro_define.specs.Defines.{ends_line, first_word}
use Rattle.macro_define.specs.Expansion.{behind_name, Left, Stop, GatherState, end_of, fetched_file, file_made, file_number, from_tokens, include_made, include_token, part, plain_token, quoted_next, stop_in}
use Rattle.macro_define.specs.Gathered.{Fetches, Gathers}
use Rattle.macro_define.specs.Made.{and_then}

-- a call that refused, and what is told around it
gathers-refused : {A C : Type 0} (told left : Result A Stop) (x y : Result C Stop) (after : Answers) (e : TextRefusal)
    → Gathers {B = Unit {0}} told (Err e) left after → ((stop : Stop) → told ≡ Err stop → x ≡ Err stop) → Gathers {B = Unit {0}} x (Err e) y after
gathers-refused told left x y after (refusals.Fault fault name) h on = on (stop_in name after fault) h
gathers-refused told left x y after refusals.Library h on = Prim.tt
gathers-refused told left x y after refusals.Memory h on = Prim.tt

pub gathers-failed : {A C : Type 0} (told left : Result A Stop) (x y : Result C Stop) (after : Answers) (e : TextRefusal) (r : Result (Unit {0}) TextRefusal)
    → Gathers {B = Unit {0}} told (Err e) left after → ((stop : Stop) → told ≡ Err stop → x ≡ Err stop) → IsErr r × IsErrAnd r (λ f. f ≡ e) → Gathers x r y after
gathers-failed told left x y after e r h on is =
    let p = err_from_is_err_and r is.1 in
    let same : r ≡ Err e = p.1 ∙ (λ i. Err (p.2 i)) in
    subst (λ (q : Result (Unit {0}) TextRefusal). Gathers x q y after) (sym same) (gathers-refused told left x y after e h on)

-- a call whose answer is handed on, and what goes on from it
pub gathers-on : {A C : Type 0} (told : Result A Stop) (a : A) (f : A → Result C Stop) (c : C) (after : Answers) (r : Result (Unit {0}) TextRefusal) → Gathers told r (Ok a) after → f a ≡ Ok c → Gathers (and_then told f) r (Ok c) after
gathers-on told a f c after (Ok u) h e = ap (λ x. and_then x f) h ∙ e
gathers-on told a f c after (Err (refusals.Fault fault name)) h e = ap (λ x. and_then x f) h
gathers-on told a f c after (Err refusals.Library) h e = Prim.tt
gathers-on told a f c after (Err refusals.Memory) h e = Prim.tt

-- a text that is not fetched
include-stopped : (d : Dialect) (depth : ℕ) (includer : List ℕ) (place : Place) (name : List ℕ) (w : GatherState) (stop : Stop)
    → fetched_file place (depth == 0) (nat_lt 255 (length name)) includer name w ≡ Err stop → include_made d depth includer place name w ≡ Err stop
include-stopped d zero includer place name w stop h = ap (λ x. and_then x (λ p. Ok (p.1))) h
include-stopped d (suc depth) includer place name w stop h =
    let deep : (suc depth == 0) ≡ false = grind arith in
    ap (λ x. and_then x (λ p. file_made d (include_made d depth name) false name (p.0) (p.1)))
    (ap (λ b. fetched_file place b (nat_lt 255 (length name)) includer name w) (sym deep) ∙ h)

fetches-refused : (told : Result (List ℕ × GatherState) Stop) (after : GatherState) (x y : Result GatherState Stop) (e : TextRefusal)
    → Fetches told (Err e) after → ((stop : Stop) → told ≡ Err stop → x ≡ Err stop) → Gathers {B = Unit {0}} x (Err e) y after.answers
fetches-refused told after x y (refusals.Fault fault name) h on = on (stop_in name after.answers fault) h
fetches-refused told after x y refusals.Library h on = Prim.tt
fetches-refused told after x y refusals.Memory h on = Prim.tt

pub include-failed : (d : Dialect) (depth : ℕ) (includer : List ℕ) (place : Place) (name : List ℕ) (w v : GatherState) (y : Result GatherState Stop) (e : TextRefusal) (r : Result (Unit {0}) TextRefusal)
    → Fetches (fetched_file place (depth == 0) (nat_lt 255 (length name)) includer name w) (Err e) v
    → IsErr r × IsErrAnd r (λ f. f ≡ e) → Gathers (include_made d depth includer place name w) r y v.answers
include-failed d depth includer place name w v y e r h is =
    let p = err_from_is_err_and r is.1 in
    let same : r ≡ Err e = p.1 ∙ (λ i. Err (p.2 i)) in
    subst (λ (q : Result (Unit {0}) TextRefusal). Gathers (include_made d depth includer place name w) q y v.answers) (sym same)
    (fetches-refused (fetched_file place (depth == 0) (nat_lt 255 (length name)) includer name w) v (include_made d depth includer place name w) y e h (include-stopped d depth includer place name w))

-- a text that is fetched
pub include-goes : (d : Dialect) (depth : ℕ) (includer : List ℕ) (place : Place) (name : List ℕ) (w v : GatherState) (text : List ℕ) (r : Result (Unit {0}) TextRefusal) (y : Result GatherState Stop) (after : Answers)
    → (depth == 0) ≡ false → fetched_file place (depth == 0) (nat_lt 255 (length name)) includer name w ≡ Ok (text, v)
    → Gathers (file_made d (include_made d (depth - 1) name) false name text v) r y after → Gathers (include_made d depth includer place name w) r y after
include-goes d zero includer place name w v text r y after deep h on = absurd (true≢false deep)
include-goes d (suc depth) includer place name w v text r y after deep h on =
    let less : suc depth - 1 ≡ depth = omega arith in
    let goes : include_made d (suc depth) includer place name w ≡ file_made d (include_made d depth name) false name text v =
    ap (λ x. and_then x (λ p. file_made d (include_made d depth name) false name (p.0) (p.1)))
    (ap (λ b. fetched_file place b (nat_lt 255 (length name)) includer name w) (sym deep) ∙ h) in
    subst (λ x. Gathers x r y after) (sym goes) (subst (λ n. Gathers (file_made d (include_made d n name) false name text v) r y after) less on)

module _ (include : Place → List ℕ → GatherState → Result GatherState Stop) (d : Dialect) (outermost : Bool) (name : List ℕ) where
  pub tokens-next : (n : ℕ) (begins : Bool) (t : Token) (ts : List Token) (fault : Option Fault) (w : GatherState) → length (t ∷ ts) ≤ n
      → from_tokens include d outermost name n begins (t ∷ ts) fault w
      ≡ and_then (part include d outermost name (first_word begins t.kind) t ts w) (λ p. from_tokens include d outermost name (n - 1) (ends_line t.kind) p.0 fault p.1)
  tokens-next zero begins t ts fault w h = absurd (omega arith)
  tokens-next (suc n) begins t ts fault w h =
      let less : n ≡ suc n - 1 = omega arith in
      ap (λ k. and_then (part include d outermost name (first_word begins t.kind) t ts w) (λ p. from_tokens include d outermost name k (ends_line t.kind) p.0 fault p.1)) less

  pub tokens-end : (n : ℕ) (begins : Bool) (fault : Option Fault) (w : GatherState) → from_tokens include d outermost name n begins [] fault w ≡ end_of name fault w
  tokens-end zero begins fault w = refl
  tokens-end (suc n) begins fault w = refl

  -- a token and those that belong to it are taken
  pub tokens-step : (n : ℕ) (begins later : Bool) (first : FirstWord) (t : Token) (all ts rest : List Token) (fault : Option Fault) (x : Result GatherState Stop) (w v : GatherState)
      → x ≡ from_tokens include d outermost name n begins all fault w → all ≡ t ∷ ts → length all ≤ n → first ≡ first_word begins t.kind → later ≡ ends_line t.kind
      → part include d outermost name first t ts w ≡ Ok (rest, v) → x ≡ from_tokens include d outermost name (n - 1) later rest fault v
  tokens-step n begins later first t all ts rest fault x w v h split few is ends goes =
      let fits : length (t ∷ ts) ≤ n = subst (λ (l : List Token). length l ≤ n) split few in
      h ∙ ap (λ (l : List Token). from_tokens include d outermost name n begins l fault w) split
      ∙ tokens-next n begins t ts fault w fits
      ∙ ap (λ r. and_then r (λ p. from_tokens include d outermost name (n - 1) (ends_line t.kind) p.0 fault p.1))
      (ap (λ f. part include d outermost name f t ts w) (sym is) ∙ goes)
      ∙ ap (λ b. from_tokens include d outermost name (n - 1) b rest fault v) (sym ends)

  pub tokens-stop : (n : ℕ) (begins : Bool) (first : FirstWord) (t : Token) (all ts : List Token) (fault : Option Fault) (x : Result GatherState Stop) (w : GatherState) (stop : Stop)
      → x ≡ from_tokens include d outermost name n begins all fault w → all ≡ t ∷ ts → length all ≤ n → first ≡ first_word begins t.kind
      → part include d outermost name first t ts w ≡ Err stop → x ≡ Err stop
  tokens-stop n begins first t all ts fault x w stop h split few is stops =
      let fits : length (t ∷ ts) ≤ n = subst (λ (l : List Token). length l ≤ n) split few in
      h ∙ ap (λ (l : List Token). from_tokens include d outermost name n begins l fault w) split
      ∙ tokens-next n begins t ts fault w fits
      ∙ ap (λ r. and_then r (λ p. from_tokens include d outermost name (n - 1) (ends_line t.kind) p.0 fault p.1))
      (ap (λ f. part include d outermost name f t ts w) (sym is) ∙ stops)

  -- an include whose name is there
  pub include-part : (first : FirstWord) (t : Token) (ts rest : List Token) (place : Place) (file bytes : List ℕ) (w v : GatherState) (after_all : Answers) (r : Result (Unit {0}) TextRefusal)
      → first ≡ Include → Some (place, file) ≡ quoted_next ts → rest ≡ behind_name ts → bytes ≡ file → Gathers (include place bytes w) r (Ok v) after_all
      → Gathers (part include d outermost name first t ts w) r (Ok (rest, v)) after_all
  include-part first t ts rest place file bytes w v after_all r is named left same h =
      let on : GatherState → Result Left Stop = λ u. Ok (behind_name ts, u) in
      let after : List Token → Left = λ l. (l, v) in
      let goes : part include d outermost name first t ts w ≡ and_then (include place bytes w) on =
      ap (λ f. part include d outermost name f t ts w) is
      ∙ ap (λ o. include_token include o (behind_name ts) w) (sym named)
      ∙ ap (λ bs. and_then (include place bs w) on) (sym same) in
      subst (λ (x : Result Left Stop). Gathers x r (Ok (after rest)) after_all) (sym goes)
      (subst (λ (l : List Token). Gathers (and_then (include place bytes w) on) r (Ok (after l)) after_all) (sym left)
      (gathers-on (include place bytes w) v on (after (behind_name ts)) after_all r h refl))

  -- an include at whose word the tokens stop
  pub include-none : (first : FirstWord) (t : Token) (ts rest : List Token) (w : GatherState) → first ≡ Include → None ≡ quoted_next ts → rest ≡ behind_name ts
      → part include d outermost name first t ts w ≡ Ok (rest, w)
  include-none first t ts rest w is named left =
      ap (λ f. part include d outermost name f t ts w) is
      ∙ ap (λ o. include_token include o (behind_name ts) w) (sym named)
      ∙ ap (λ (l : List Token). Ok (l, w)) (sym left)

  -- a token that begins nothing
  pub plain-part : (first : FirstWord) (t : Token) (ts : List Token) (w v : GatherState) (after : Answers) (r : Result (Unit {0}) TextRefusal)
      → first ≡ Other → Gathers (plain_token d outermost name t w) r (Ok v) after → Gathers (part include d outermost name first t ts w) r (Ok (ts, v)) after
  plain-part first t ts w v after r is h =
      let on : GatherState → Result Left Stop = λ u. Ok (ts, u) in
      subst (λ (f : FirstWord). Gathers (part include d outermost name f t ts w) r (on v) after) (sym is)
      (gathers-on (plain_token d outermost name t w) v on (ts, v) after r h refl)

  -- the whole of a file's text
  pub file-begins : (text : List ℕ) (w : GatherState) (number : ℕ) (tokens : List Token) (fault : Option Fault) → number ≡ file_number w.files name
      → tokens ≡ (scanned d text number).tokens → fault ≡ (scanned d text number).fault
      → file_made d include outermost name text w ≡ from_tokens include d outermost name (length tokens) true tokens fault w
  file-begins text w number tokens fault e f g =
      let whole : Reading → Result GatherState Stop = λ r. from_tokens include d outermost name (length r.tokens) true r.tokens r.fault w in
      let same : scanned d text number ≡ record { tokens = tokens; fault = fault } = λ i. record { tokens = sym f i; fault = sym g i } in
      ap (λ k. whole (scanned d text k)) (sym e) ∙ ap whole same

-- want of memory says nothing
pub gathers-memory : {A : Type 0} (told left : Result A Stop) (after : Answers) (r : Result (Unit {0}) TextRefusal) → IsErr r × IsErrAnd r (λ f. f ≡ refusals.Memory) → Gathers told r left after
gathers-memory told left after r is =
    let p = err_from_is_err_and r is.1 in
    let same : r ≡ Err refusals.Memory = p.1 ∙ (λ i. Err (p.2 i)) in
    subst (λ (q : Result (Unit {0}) TextRefusal). Gathers told q left after) (sym same) Prim.tt
