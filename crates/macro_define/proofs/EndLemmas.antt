-- The tokens that are gathered end with the end of the text.
use Rattle.std.proofs.Common.{◌≡◌, ℕ, zero, suc, ◌==◌, ◌&&◌, ◌≤◌, ◌+◌, ◌-◌, Bool, true, false, not, List, [], ◌∷◌, ◌++◌, length, refl, sym, ◌∙◌, ap, subst, arith, true≢false, Some, None, Ok, Err, if◌then◌else◌}
use Rattle.std.specs.Prelude.{⊤, Option, Result, is_some}
use Rattle.ground.specs.declared.fault.Fault.{Fault}
use Rattle.ground.specs.declared.fault.FaultKind.TheVariants.{BadDefine}
use Rattle.ground.specs.declared.place.Place.{Place}
use Rattle.ground.specs.declared.token.Dialect.{Dialect}
use Rattle.ground.specs.declared.token.Token.{Token}
use Rattle.ground.specs.declared.token.TokenKind.{TokenKind}
use Rattle.ground.specs.declared.token.TokenKind.TheVariants.{Word, Number, Quoted, Sign as SignToken, LineEnd, Semicolon, TextEnd}
use Rattle.free_scan.specs.declared.scanner.LineStart.{LineStart}
use Rattle.free_scan.specs.Lexemes.{Reading, with_tokens}
use Rattle.free_scan.specs.Tokens.{Goes, LineReading, Stops, line_reading, lines_from, open_after, scanned, text_start}
use Rattle.macro_define.specs.declared.defines.FirstWord.{FirstWord}
use Rattle.macro_define.specs.declared.defines.FirstWord.TheVariants.{Define, Include, Other}
use Rattle.macro_define.specs.declared.whole_text.Gathered.{Gathered}
use Rattle.macro_define.specs.Answers.{Answers, Known}
use Rattle.macro_define.specs.Defines.{Broken, Closed, CutOff, Defined, Enclosed, define_from, define_of, define_of_name, enclosed_define, enclosed_text, ends_line, ends_text, first_word, is_close, is_comma, is_full, is_open, is_reserved, line_text, name_in, named_define, with_enclosed}
use Rattle.macro_define.specs.Expansion.{Left, Stop, GatherState, behind_name, fetched_file, file_made, file_number, from_tokens, gathered, in_file, include_made, include_token, is_quoted, is_text_end, part, plain_token, quoted_next, first_gathering, with_made}
use Rattle.macro_define.specs.GatherAnswers.{EndsText, IsAnswer}
use Rattle.macro_define.specs.Macros.{Macros, key}
use Rattle.macro_define.specs.Made.{Made, and_then, put}
use Rattle.ground.specs.Faults.{fault_at, limit_at}
use Rattle.macro_define.proofs.FileLemmas.{tokens-end}

-- the last token is a TextEnd
abbrev finished : List Token → Bool
finished [] = false
finished (t ∷ []) = is_text_end t.kind
finished (t ∷ (u ∷ us)) = finished (u ∷ us)

none-finished : {A : Type 0} → finished [] ≡ true → A
none-finished h = absurd (true≢false (sym h))

-- by the two cases of a test
chosen : {A : Type 0} (P : A → Type 0) (b : Bool) (x y : A) → (b ≡ true → P x) → (b ≡ false → P y) → P (if b then x else y)
chosen P true x y f g = f refl
chosen P false x y f g = g refl

kind-is : (k : TokenKind) → is_text_end k ≡ true → k ≡ TextEnd
kind-is TextEnd h = refl
kind-is (Word w) h = absurd (true≢false (sym h))
kind-is (Number n) h = absurd (true≢false (sym h))
kind-is (Quoted q) h = absurd (true≢false (sym h))
kind-is (SignToken s) h = absurd (true≢false (sym h))
kind-is LineEnd h = absurd (true≢false (sym h))
kind-is Semicolon h = absurd (true≢false (sym h))

no-end : (f : TokenKind → Bool) (k : TokenKind) → f TextEnd ≡ false → f k ≡ true → is_text_end k ≡ false
no-end f TextEnd e h = absurd (true≢false (sym h ∙ e))
no-end f (Word w) e h = refl
no-end f (Number n) e h = refl
no-end f (Quoted q) e h = refl
no-end f (SignToken s) e h = refl
no-end f LineEnd e h = refl
no-end f Semicolon e h = refl

behind : (t : Token) (ts : List Token) → finished (t ∷ ts) ≡ true → is_text_end t.kind ≡ false → finished ts ≡ true
behind t [] h other = absurd (true≢false (sym h ∙ other))
behind t (u ∷ us) h other = h

finished-more : (t : Token) (ts : List Token) → finished ts ≡ true → finished (t ∷ ts) ≡ true
finished-more t [] h = none-finished h
finished-more t (u ∷ us) h = h

finished-append : (xs ys : List Token) → finished ys ≡ true → finished (xs ++ ys) ≡ true
finished-append [] ys h = h
finished-append (x ∷ xs) ys h = finished-more x (xs ++ ys) (finished-append xs ys h)

ends-text : (ts : List Token) → finished ts ≡ true → EndsText ts
ends-text [] h = none-finished h
ends-text (t ∷ []) h = ([], t, refl, kind-is t.kind h)
ends-text (t ∷ (u ∷ us)) h =
    let r = ends-text (u ∷ us) h in
    (t ∷ r.0, r.1, ap (λ (l : List Token). t ∷ l) r.2, r.3)

-- A define leaves the end of the text.
module _ (m : ℕ) where
  abbrev RestEnds : List Token → Type 0
  RestEnds ts = (finished ts ≡ true) × (length ts ≤ m)

  abbrev EnclosedEnds : Enclosed → Type 0
  EnclosedEnds (Closed text rest) = RestEnds rest
  EnclosedEnds Broken = ⊤
  EnclosedEnds CutOff = ⊥

  abbrev DefinedEnds : Defined → Type 0
  DefinedEnds (Ok p) = RestEnds p.0
  DefinedEnds (Err fault) = ⊤

  rest-behind : (f : TokenKind → Bool) (t : Token) (ts : List Token) → f TextEnd ≡ false → f t.kind ≡ true → RestEnds (t ∷ ts) → RestEnds ts
  rest-behind f t ts e h r =
      let few : length (t ∷ ts) ≤ m = r.1 in
      (behind t ts r.0 (no-end f t.kind e h), omega (arith, few))

  enclosed-ends : (ts : List Token) (opened : ℕ) (text : List TokenKind) → RestEnds ts → EnclosedEnds (enclosed_text opened text ts)
  enclosed-ends [] opened text r = none-finished r.0
  enclosed-ends (t ∷ ts) opened text r =
      chosen EnclosedEnds (ends_text t.kind) Broken
      (if is_close t.kind && opened == 0 then Closed text ts else enclosed_text (open_after opened t.kind) (text ++ t.kind ∷ []) ts)
      (λ e. Prim.tt)
      (λ e.
      let rest = rest-behind (λ k. not (ends_text k)) t ts refl (ap not e) r in
      chosen EnclosedEnds (is_close t.kind && opened == 0) (Closed text ts) (enclosed_text (open_after opened t.kind) (text ++ t.kind ∷ []) ts)
      (λ c. rest)
      (λ c. enclosed-ends ts (open_after opened t.kind) (text ++ t.kind ∷ []) rest))

  line-ends : (ts : List Token) (text : List TokenKind) → RestEnds ts → RestEnds ((line_text text ts).1)
  line-ends [] text r = none-finished r.0
  line-ends (t ∷ ts) text r =
      chosen (λ (p : List TokenKind × List Token). RestEnds p.1) (ends_text t.kind) (text, t ∷ ts) (line_text (text ++ t.kind ∷ []) ts)
      (λ e. r)
      (λ e. line-ends ts (text ++ t.kind ∷ []) (rest-behind (λ k. not (ends_text k)) t ts refl (ap not e) r))

  with-enclosed-ends : (place : Place) (macros : Macros) (name : List ℕ) (e : Enclosed) → EnclosedEnds e → DefinedEnds (with_enclosed place macros name e)
  with-enclosed-ends place macros name (Closed text rest) h = h
  with-enclosed-ends place macros name Broken h = Prim.tt
  with-enclosed-ends place macros name CutOff h = absurd h

  enclosed-define-ends : (place : Place) (macros : Macros) (name : List ℕ) (ts : List Token) → RestEnds ts → DefinedEnds (enclosed_define place macros name ts)
  enclosed-define-ends place macros name [] r = none-finished r.0
  enclosed-define-ends place macros name (t ∷ ts) r =
      chosen DefinedEnds (is_comma t.kind) (with_enclosed place macros name (enclosed_text 0 [] ts)) (Err (fault_at place BadDefine))
      (λ c. with-enclosed-ends place macros name (enclosed_text 0 [] ts) (enclosed-ends ts 0 [] (rest-behind is_comma t ts refl c r)))
      (λ c. Prim.tt)

  of-name-ends : (place : Place) (enclosed : Bool) (macros : Macros) (name : List ℕ) (ts : List Token) → RestEnds ts → DefinedEnds (define_of_name place enclosed macros name ts)
  of-name-ends place true macros name ts r = enclosed-define-ends place macros name ts r
  of-name-ends place false macros name ts r = line-ends ts [] r

  named-ends : (d : Dialect) (place at : Place) (enclosed : Bool) (macros : Macros) (t : Token) (ts : List Token) (o : Option (List ℕ)) → name_in t.kind ≡ o → RestEnds (t ∷ ts)
      → DefinedEnds (named_define d place enclosed macros at o ts)
  named-ends d place at enclosed macros t ts None e r = Prim.tt
  named-ends d place at enclosed macros t ts (Some name) e r =
      chosen DefinedEnds (is_reserved name) (Err (fault_at place BadDefine))
      (if is_full macros (key d name) then Err (limit_at at 4) else define_of_name place enclosed macros (key d name) ts)
      (λ c. Prim.tt)
      (λ c.
      chosen DefinedEnds (is_full macros (key d name)) (Err (limit_at at 4)) (define_of_name place enclosed macros (key d name) ts)
      (λ f. Prim.tt)
      (λ f. of-name-ends place enclosed macros (key d name) ts (rest-behind (λ k. is_some (name_in k)) t ts refl (ap is_some e) r)))

  from-ends : (d : Dialect) (place : Place) (enclosed : Bool) (macros : Macros) (ts : List Token) → RestEnds ts → DefinedEnds (define_from d place enclosed macros ts)
  from-ends d place enclosed macros [] r = none-finished r.0
  from-ends d place enclosed macros (t ∷ ts) r = named-ends d place t.place enclosed macros t ts (name_in t.kind) refl r

  define-ends : (d : Dialect) (place : Place) (macros : Macros) (ts : List Token) → RestEnds ts → DefinedEnds (define_of d place macros ts)
  define-ends d place macros [] r = none-finished r.0
  define-ends d place macros (t ∷ ts) r =
      chosen DefinedEnds (is_open t.kind) (define_from d place true macros ts) (define_from d place false macros (t ∷ ts))
      (λ c. from-ends d place true macros ts (rest-behind is_open t ts refl c r))
      (λ c. from-ends d place false macros (t ∷ ts) r)

  -- So does each token but the last.
  abbrev LeftEnds : Result Left Stop → Type 0
  LeftEnds (Ok p) = RestEnds p.0
  LeftEnds (Err stop) = ⊤

  defined-left : (name : List ℕ) (answers : Answers) (w : GatherState) (r : Defined) → DefinedEnds r → LeftEnds (and_then (in_file name answers r) (λ p. Ok (p.0, record w { macros = p.1 })))
  defined-left name answers w (Ok p) h = h
  defined-left name answers w (Err fault) h = Prim.tt

  world-left : (ts : List Token) (r : Result GatherState Stop) → RestEnds ts → LeftEnds (and_then r (λ v. Ok (ts, v)))
  world-left ts (Ok v) h = h
  world-left ts (Err stop) h = Prim.tt

  name-ends : (ts : List Token) → RestEnds ts → RestEnds (behind_name ts)
  name-ends [] r = r
  name-ends (t ∷ ts) r = chosen RestEnds (is_quoted t.kind) ts (t ∷ ts) (λ q. rest-behind is_quoted t ts refl q r) (λ q. r)

  module _ (include : Place → List ℕ → GatherState → Result GatherState Stop) where
    include-ends : (o : Option (Place × List ℕ)) (ts : List Token) (w : GatherState) → RestEnds ts → LeftEnds (include_token include o ts w)
    include-ends (Some (place, file)) ts w r = world-left ts (include place file w) r
    include-ends None ts w r = r

    part-ends : (d : Dialect) (name : List ℕ) (first : FirstWord) (t : Token) (ts : List Token) (w : GatherState) → RestEnds ts → LeftEnds (part include d true name first t ts w)
    part-ends d name Define t ts w r = defined-left name w.answers w (define_of d t.place w.macros ts) (define-ends d t.place w.macros ts r)
    part-ends d name Include t ts w r = include-ends (quoted_next ts) (behind_name ts) w (name-ends ts r)
    part-ends d name Other t ts w r = world-left ts (plain_token d true name t w) r

  left-on : (r : Result Left Stop) (f : Left → Result GatherState Stop) (E : Result GatherState Stop → Type 0) → ((stop : Stop) → E (Err stop)) → LeftEnds r → ((p : Left) → RestEnds p.0 → E (f p)) → E (and_then r f)
  left-on (Ok p) f E stops h on = on p h
  left-on (Err stop) f E stops h on = stops stop

-- what is made ends so
abbrev Ends : Result GatherState Stop → Type 0
Ends (Ok w) = finished w.made.tokens ≡ true
Ends (Err stop) = ⊤

abbrev MadeEnds : Result Made Fault → Type 0
MadeEnds (Ok m) = finished m.tokens ≡ true
MadeEnds (Err fault) = ⊤

put-ends : (t : Token) (m : Made) → is_text_end t.kind ≡ true → MadeEnds (put t m)
put-ends t m h =
    chosen MadeEnds (m.left == 0) (Err (limit_at t.place 2)) (Ok (record { tokens = m.tokens ++ t ∷ []; left = m.left - 1 }))
    (λ c. Prim.tt)
    (λ c. finished-append m.tokens (t ∷ []) h)

module _ (include : Place → List ℕ → GatherState → Result GatherState Stop) (d : Dialect) (name : List ℕ) where
  -- the tokens behind the last
  abbrev last_made : ℕ → Bool → GatherState → Result Made Fault → Result GatherState Stop
  last_made n later w r =
      and_then {A = Left} (and_then (in_file name w.answers (with_made w r)) (λ v. Ok ([], v))) (λ p. from_tokens include d true name n later p.0 None p.1)

  made-ends : (n : ℕ) (later : Bool) (w : GatherState) (r : Result Made Fault) → MadeEnds r → Ends (last_made n later w r)
  made-ends n later w (Ok m) h = subst Ends (sym (tokens-end include d true name n later None (record w { made = m }))) h
  made-ends n later w (Err fault) h = Prim.tt

  abbrev next_made : ℕ → Bool → TokenKind → Place → GatherState → Result GatherState Stop
  next_made n begins k place w =
      and_then (part include d true name (first_word begins k) (record { kind = k; place = place }) [] w) (λ p. from_tokens include d true name n (ends_line k) p.0 None p.1)

  end-ends : (n : ℕ) (begins : Bool) (place : Place) (w : GatherState) → Ends (next_made n begins TextEnd place w)
  end-ends n true place w = made-ends n false w (put (record { kind = TextEnd; place = place }) w.made) (put-ends (record { kind = TextEnd; place = place }) w.made refl)
  end-ends n false place w = made-ends n false w (put (record { kind = TextEnd; place = place }) w.made) (put-ends (record { kind = TextEnd; place = place }) w.made refl)

  last-ends : (n : ℕ) (begins : Bool) (t : Token) (w : GatherState) → is_text_end t.kind ≡ true → Ends (next_made n begins t.kind t.place w)
  last-ends n begins t w h = subst (λ k. Ends (next_made n begins k t.place w)) (sym (kind-is t.kind h)) (end-ends n begins t.place w)

  whole-ends : (n : ℕ) (begins : Bool) (ts : List Token) (w : GatherState) → finished ts ≡ true → length ts ≤ n → Ends (from_tokens include d true name n begins ts None w)
  whole-ends zero begins [] w h few = none-finished h
  whole-ends zero begins (t ∷ ts) w h few = absurd (omega (arith, few))
  whole-ends (suc n) begins [] w h few = none-finished h
  whole-ends (suc n) begins (t ∷ []) w h few = last-ends n begins t w h
  whole-ends (suc n) begins (t ∷ (u ∷ us)) w h few =
      left-on n (part include d true name (first_word begins t.kind) t (u ∷ us) w) (λ p. from_tokens include d true name n (ends_line t.kind) p.0 None p.1) Ends (λ stop. Prim.tt)
      (part-ends n include d name (first_word begins t.kind) t (u ∷ us) w (h, omega (arith, few)))
      (λ p r. whole-ends n (ends_line t.kind) p.0 p.1 r.0 r.1)

  -- a file at whose fault the tokens stop is not whole
  left-any : (r : Result Left Stop) (f : Left → Result GatherState Stop) → ((p : Left) → Ends (f p)) → Ends (and_then r f)
  left-any (Ok p) f on = on p
  left-any (Err stop) f on = Prim.tt

  faulty-ends : (n : ℕ) (begins : Bool) (ts : List Token) (fault : Fault) (w : GatherState) → Ends (from_tokens include d true name n begins ts (Some fault) w)
  faulty-ends zero begins ts fault w = Prim.tt
  faulty-ends (suc n) begins [] fault w = Prim.tt
  faulty-ends (suc n) begins (t ∷ ts) fault w =
      left-any (part include d true name (first_word begins t.kind) t ts w) (λ p. from_tokens include d true name n (ends_line t.kind) p.0 (Some fault) p.1)
      (λ p. faulty-ends n (ends_line t.kind) p.0 fault p.1)

  all-ends : (ts : List Token) (o : Option Fault) (w : GatherState) → (o ≡ None → finished ts ≡ true) → Ends (from_tokens include d true name (length ts) true ts o w)
  all-ends ts None w h = whole-ends (length ts) true ts w (h refl) (omega arith)
  all-ends ts (Some fault) w h = faulty-ends (length ts) true ts fault w

-- what the scan gives ends so, unless it stops
abbrev ReadingEnds : Reading → Type 0
ReadingEnds r = r.fault ≡ None → finished r.tokens ≡ true

line-reading-ends : (l : LineReading) (rest : LineStart → Reading) → ((after : LineStart) → ReadingEnds (rest after))
    → ReadingEnds (elim l [ Goes tokens after ↦ with_tokens tokens (rest after) | Stops tokens fault ↦ record { tokens = tokens; fault = Some fault } ])
line-reading-ends (Goes tokens after) rest on h = finished-append tokens (rest after).tokens (on after h)
line-reading-ends (Stops tokens fault) rest on h = absurd (true≢false (ap is_some h))

lines-end : (d : Dialect) (text : List ℕ) (file : ℕ) (s : LineStart) (gone : ℕ) (bs : List ℕ) → ReadingEnds (lines_from d text file s gone bs)
lines-end d text file s gone [] h = refl
lines-end d text file s (suc gone) (b ∷ bs) h = lines-end d text file s gone bs h
lines-end d text file s zero (b ∷ bs) h =
    line-reading-ends (line_reading d text file s) (λ after. lines_from d text file after (after.next - (s.next + 1)) bs)
    (λ after. lines-end d text file after (after.next - (s.next + 1)) bs) h

file-ends : (d : Dialect) (include : Place → List ℕ → GatherState → Result GatherState Stop) (name text : List ℕ) (w : GatherState) → Ends (file_made d include true name text w)
file-ends d include name text w =
    let r = scanned d text (file_number w.files name) in
    all-ends include d name r.tokens r.fault w (lines-end d text (file_number w.files name) text_start 0 text)

fetched-on : (r : Result (List ℕ × GatherState) Stop) (f : List ℕ × GatherState → Result GatherState Stop) → ((p : List ℕ × GatherState) → Ends (f p)) → Ends (and_then r f)
fetched-on (Ok p) f on = on p
fetched-on (Err stop) f on = Prim.tt

gathered-ends : (d : Dialect) (name : List ℕ) (known : Known) → Ends (gathered d name known)
gathered-ends d name known =
    fetched-on (fetched_file (record { file = 0; line = 0 }) false false name name (first_gathering known)) (λ p. file_made d (include_made d 10 name) true name p.0 p.1)
    (λ p. file-ends d (include_made d 10 name) name p.0 p.1)

pub answer-ends : (d : Dialect) (name : List ℕ) (known : Known) (names : List (List ℕ)) (all : Gathered) → IsAnswer (gathered d name known) names (Ok all) → EndsText all.tokens.items
answer-ends d name known names all h =
    ends-text all.tokens.items (subst (λ ts. finished ts ≡ true) (sym h.1.1) (subst Ends h.1.0 (gathered-ends d name known)))
