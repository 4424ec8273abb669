-- What is gathered of a text is made of the tokens that are scanned: a fact of what is made so far that stays as scanned tokens are put
-- and counted holds of all that is gathered. A macro's text has tokens that were scanned.
use Rattle.std.proofs.Common.{◌≡◌, ℕ, zero, suc, Bool, true, false, List, [], ◌∷◌, ◌++◌, length, Option, Some, None, Result, Ok, Err, subst}
use Rattle.std.specs.Prelude.{⊤, IfOk, ◌==◌, ◌&&◌, not, nat_lt, if◌then◌else◌}
use Rattle.std.specs.List.{All, list_any}
use Rattle.std.specs.Str.{bytes_eq}
use Rattle.std.proofs.lemmas.Bool.{cond_both}
use Rattle.std.proofs.lemmas.List.Elements.{All-nil, All-cons, All-head, All-tail, All-push}
use Rattle.ground.specs.Faults.{fault_at, limit_at}
use Rattle.ground.specs.declared.fault.Fault.{Fault}
use Rattle.ground.specs.declared.fault.FaultKind.TheVariants.{BadDefine, MacroLoop, IncludeDepth}
use Rattle.ground.specs.declared.place.Place.{Place}
use Rattle.ground.specs.declared.token.Dialect.{Dialect}
use Rattle.ground.specs.declared.token.Token.{Token}
use Rattle.ground.specs.declared.token.TokenKind.{TokenKind}
use Rattle.free_scan.specs.Tokens.{open_after, scanned}
use Rattle.macro_define.specs.declared.defines.FirstWord.{FirstWord}
use Rattle.macro_define.specs.declared.defines.FirstWord.TheVariants.{Define, Include, Other}
use Rattle.macro_define.specs.Answers.{Answers, Known}
use Rattle.macro_define.specs.Defines.{Enclosed, Closed, Broken, CutOff, define_from, define_of, define_of_name, enclosed_define, enclosed_text, ends_line, ends_text, first_word, is_close, is_comma, is_full, is_open, is_reserved, line_text, name_in, named_define, with_enclosed, with_macro}
use Rattle.macro_define.specs.Made.{Made, and_then, counted, put}
use Rattle.macro_define.specs.Macros as replacing
use Rattle.macro_define.specs.Macros.{Macros, key, macro_of, text_of, kind_made, replaced, token_made}
use Rattle.macro_define.specs.Expansion.{GatherState, Stop, Left, in_file, held_under, wanting, with_text, fetched_file, file_number, is_quoted, is_text_end, with_made, plain_token, define_token, include_token, quoted_next, behind_name, part, end_of, from_tokens, file_made, include_made, text_made, first_gathering, gathered}

-- one after the other
then_kept : {A B E : Type 0} (P : A → Type 0) (Q : B → Type 0) (r : Result A E) (f : A → Result B E) → IfOk r P → ((a : A) → P a → IfOk (f a) Q) → IfOk (and_then r f) Q
then_kept P Q (Ok a) f h g = g a h
then_kept P Q (Err e) f h g = tt

chosen : {A E : Type 0} (P : A → Type 0) (b : Bool) (e : E) (r : Result A E) → IfOk r P → IfOk (if b then Err e else r) P
chosen P b e r h = cond_both b (Err e) r (λ x. IfOk x P) (λ e. tt) (λ e. h)

in_file_kept : {A : Type 0} (P : A → Type 0) (name : List ℕ) (answers : Answers) (r : Result A Fault) → IfOk r P → IfOk (in_file name answers r) P
in_file_kept P name answers (Ok a) h = h
in_file_kept P name answers (Err e) h = tt

module _ (K : TokenKind → Type 0) where
  -- tokens of such kinds, and macros whose texts have such kinds alone
  abbrev Are : List Token → Type 0
  Are ts = All (λ t. K t.kind) ts

  head : (t : Token) (ts : List Token) → Are (t ∷ ts) → K t.kind
  head t ts h = All-head (λ u. K u.kind) t ts h

  tail : (t : Token) (ts : List Token) → Are (t ∷ ts) → Are ts
  tail t ts h = All-tail (λ u. K u.kind) t ts h

  abbrev IsText : List ℕ × List TokenKind → Type 0
  IsText m = All K m.1

  -- ---- defines ----

  abbrev IsDefined : List Token × Macros → Type 0
  IsDefined p = Are p.0 × All IsText p.1

  macro_kept : (macros : Macros) (name : List ℕ) (text : List TokenKind) → All IsText macros → All K text → All IsText (with_macro macros name text)
  macro_kept [] name text h g = All-cons IsText (name, text) [] g h
  macro_kept (m ∷ macros) name text h g =
      let rest = All-tail IsText m macros h in
      cond_both (bytes_eq name m.0) ((m.0, text) ∷ macros) (m ∷ with_macro macros name text) (All IsText) (λ e. All-cons IsText (m.0, text) macros g rest)
      (λ e. All-cons IsText m (with_macro macros name text) (All-head IsText m macros h) (macro_kept macros name text rest g))

  abbrev IsLine : List TokenKind × List Token → Type 0
  IsLine p = All K p.0 × Are p.1

  line_kept : (text : List TokenKind) (ts : List Token) → All K text → Are ts → IsLine (line_text text ts)
  line_kept text [] g h = (g, h)
  line_kept text (t ∷ ts) g h =
      cond_both (ends_text (t.kind)) (text, t ∷ ts) (line_text (text ++ t.kind ∷ []) ts) IsLine (λ e. (g, h))
      (λ e. line_kept (text ++ t.kind ∷ []) ts (All-push K text (t.kind) g (head t ts h)) (tail t ts h))

  abbrev IsEnclosed : Enclosed → Type 0
  IsEnclosed (Closed text rest) = All K text × Are rest
  IsEnclosed Broken = ⊤
  IsEnclosed CutOff = ⊤

  enclosed_kept : (opened : ℕ) (text : List TokenKind) (ts : List Token) → All K text → Are ts → IsEnclosed (enclosed_text opened text ts)
  enclosed_kept opened text [] g h = tt
  enclosed_kept opened text (t ∷ ts) g h =
      let rest = tail t ts h in
      let more = enclosed_text (open_after opened (t.kind)) (text ++ t.kind ∷ []) ts in
      cond_both (ends_text (t.kind)) Broken (if is_close (t.kind) && opened == 0 then Closed text ts else more) IsEnclosed (λ e. tt)
      (λ e. cond_both (is_close (t.kind) && opened == 0) (Closed text ts) more IsEnclosed (λ f. (g, rest))
      (λ f. enclosed_kept (open_after opened (t.kind)) (text ++ t.kind ∷ []) ts (All-push K text (t.kind) g (head t ts h)) rest))

  module _ (place : Place) (macros : Macros) (all : All IsText macros) where
    closed_kept : (name : List ℕ) (e : Enclosed) → IsEnclosed e → IfOk (with_enclosed place macros name e) IsDefined
    closed_kept name (Closed text rest) h = (h.1, macro_kept macros name text all h.0)
    closed_kept name Broken h = tt
    closed_kept name CutOff h = (All-nil (λ u. K u.kind), all)

    parenthesis_kept : (name : List ℕ) (ts : List Token) → Are ts → IfOk (enclosed_define place macros name ts) IsDefined
    parenthesis_kept name [] h = (h, all)
    parenthesis_kept name (t ∷ ts) h =
        let told = with_enclosed place macros name (enclosed_text 0 [] ts) in
        cond_both (is_comma (t.kind)) told (Err (fault_at place BadDefine)) (λ r. IfOk r IsDefined) (λ e. closed_kept name (enclosed_text 0 [] ts) (enclosed_kept 0 [] ts (All-nil K) (tail t ts h))) (λ e. tt)

    form_kept : (enclosed : Bool) (name : List ℕ) (ts : List Token) → Are ts → IfOk (define_of_name place enclosed macros name ts) IsDefined
    form_kept true name ts h = parenthesis_kept name ts h
    form_kept false name ts h =
        let line : IsLine (line_text [] ts) = line_kept [] ts (All-nil K) h in
        (line.1, macro_kept macros name ((line_text [] ts).0) all line.0)

    module _ (d : Dialect) where
      named_kept : (enclosed : Bool) (at : Place) (o : Option (List ℕ)) (ts : List Token) → Are ts → IfOk (named_define d place enclosed macros at o ts) IsDefined
      named_kept enclosed at None ts h = tt
      named_kept enclosed at (Some name) ts h =
          chosen IsDefined (is_reserved name) (fault_at place BadDefine) _ (chosen IsDefined (is_full macros (key d name)) (limit_at at 4) _ (form_kept enclosed (key d name) ts h))

      from_kept : (enclosed : Bool) (ts : List Token) → Are ts → IfOk (define_from d place enclosed macros ts) IsDefined
      from_kept enclosed [] h = (h, all)
      from_kept enclosed (t ∷ ts) h = named_kept enclosed (t.place) (name_in (t.kind)) ts (tail t ts h)

      define_kept : (ts : List Token) → Are ts → IfOk (define_of d place macros ts) IsDefined
      define_kept [] h = (h, all)
      define_kept (t ∷ ts) h =
          cond_both (is_open (t.kind)) (define_from d place true macros ts) (define_from d place false macros (t ∷ ts)) (λ r. IfOk r IsDefined)
          (λ e. from_kept true ts (tail t ts h)) (λ e. from_kept false (t ∷ ts) h)

  -- the text of a macro
  text_known : (macros : Macros) (n : ℕ) → All IsText macros → All K (text_of macros n)
  text_known [] n h = All-nil K
  text_known (m ∷ macros) zero h = All-head IsText m macros h
  text_known (m ∷ macros) (suc n) h = text_known macros n (All-tail IsText m macros h)

  -- ---- tokens and macros ----

  module _ (P : Made → Type 0) (put_kept : (t : Token) (m : Made) → K t.kind → P m → IfOk (put t m) P) (counted_kept : (place : Place) (m : Made) → P m → IfOk (counted place m) P) where
    module _ (d : Dialect) (macros : Macros) (all : All IsText macros) where
      module _ (place : Place) where
        kind_kept : (replace : ℕ → Made → Result Made Fault) → ((n : ℕ) (m : Made) → P m → IfOk (replace n m) P) → (kind : TokenKind) (m : Made) → K kind → P m → IfOk (kind_made d macros place replace kind m) P
        kind_kept replace kept kind m g h = by (macro_of d macros kind)
          where
            by : (o : Option ℕ) → IfOk (elim o [ Some n ↦ replace n m | None ↦ put (record { kind = kind; place = place }) m ]) P
            by (Some n) = kept n m h
            by None = put_kept (record { kind = kind; place = place }) m g h

        text_kept : (replace : ℕ → Made → Result Made Fault) → ((n : ℕ) (m : Made) → P m → IfOk (replace n m) P) → (kinds : List TokenKind) → All K kinds → (m : Made) → P m → IfOk (replacing.text_made d macros place replace kinds m) P
        text_kept replace kept [] g m h = h
        text_kept replace kept (kind ∷ kinds) g m h =
            then_kept P P (kind_made d macros place replace kind m) (replacing.text_made d macros place replace kinds) (kind_kept replace kept kind m (All-head K kind kinds g) h)
            (text_kept replace kept kinds (All-tail K kind kinds g))

        replaced_kept : (free : ℕ) (progress : List ℕ) (n : ℕ) (m : Made) → P m → IfOk (replaced d macros place free progress n m) P
        replaced_kept zero progress n m h = tt
        replaced_kept (suc free) progress n m h =
            let after = replacing.text_made d macros place (replaced d macros place free (n ∷ progress)) (text_of macros n) in
            chosen P (list_any (λ i. i == n) progress) (fault_at place MacroLoop) (and_then (counted place m) after)
            (then_kept P P (counted place m) after (counted_kept place m h) (text_kept (replaced d macros place free (n ∷ progress)) (replaced_kept free (n ∷ progress)) (text_of macros n) (text_known macros n all)))

      token_kept : (t : Token) (m : Made) → K t.kind → P m → IfOk (token_made d macros t m) P
      token_kept t m g h = kind_kept (t.place) (replaced d macros (t.place) (length macros) []) (replaced_kept (t.place) (length macros) []) (t.kind) m g h

    -- ---- files ----

    abbrev IsKept : GatherState → Type 0
    IsKept w = P w.made × All IsText w.macros

    made_kept : (w : GatherState) (r : Result Made Fault) → All IsText w.macros → IfOk r P → IfOk (with_made w r) IsKept
    made_kept w (Ok m) all h = (h, all)
    made_kept w (Err e) all h = tt

    plain_kept : (d : Dialect) (outermost : Bool) (name : List ℕ) (t : Token) (w : GatherState) → K t.kind → IsKept w → IfOk (plain_token d outermost name t w) IsKept
    plain_kept d outermost name t w g h =
        let told = with_made w (token_made d w.macros t w.made) in
        cond_both (not outermost && is_text_end (t.kind)) (Ok w) (in_file name w.answers told) (λ r. IfOk r IsKept) (λ e. h)
        (λ e. in_file_kept IsKept name w.answers told (made_kept w (token_made d w.macros t w.made) h.1 (token_kept d w.macros h.1 t w.made g h.0)))

    abbrev IsLeft : Left → Type 0
    IsLeft p = Are p.0 × IsKept p.1

    define_left : (d : Dialect) (name : List ℕ) (place : Place) (ts : List Token) (w : GatherState) → Are ts → IsKept w → IfOk (define_token d name place ts w) IsLeft
    define_left d name place ts w g h =
        then_kept IsDefined IsLeft (in_file name w.answers (define_of d place w.macros ts)) (λ p. Ok (p.0, record w { macros = p.1 }))
        (in_file_kept IsDefined name w.answers (define_of d place w.macros ts) (define_kept place w.macros h.1 d ts g)) (λ p k. (k.0, (h.0, k.1)))

    -- a text and the state in which it is wanted
    abbrev IsRead : List ℕ × GatherState → Type 0
    IsRead p = IsKept p.1

    read_kept : (place : Place) (too_deep too_long : Bool) (name : List ℕ) (w : GatherState) (o : Option (List ℕ)) → IsKept w → IfOk (with_text place too_deep too_long name w o) IsRead
    read_kept place too_deep too_long name w None h = tt
    read_kept place too_deep too_long name w (Some text) h =
        chosen IsRead too_deep (fault_at place IncludeDepth) _ (chosen IsRead (nat_lt (w.room) (length text)) (limit_at place 1) _ (chosen IsRead too_long (limit_at place 11) _ h))

    fetched_kept : (place : Place) (too_deep too_long : Bool) (includer name : List ℕ) (w : GatherState) → IsKept w → IfOk (fetched_file place too_deep too_long includer name w) IsRead
    fetched_kept place too_deep too_long includer name w h =
        let after = wanting name w.answers in
        in_file_kept IsRead includer after (with_text place too_deep too_long name (record w { answers = after }) (held_under name w.answers)) (read_kept place too_deep too_long name (record w { answers = after }) (held_under name w.answers) h)

    end_kept : (name : List ℕ) (fault : Option Fault) (w : GatherState) → IsKept w → IfOk (end_of name fault w) IsKept
    end_kept name (Some f) w h = tt
    end_kept name None w h = h

    behind_kept : (ts : List Token) → Are ts → Are (behind_name ts)
    behind_kept [] g = g
    behind_kept (t ∷ ts) g = cond_both (is_quoted (t.kind)) ts (t ∷ ts) Are (λ e. tail t ts g) (λ e. g)

    module _ (scanned_are : (d : Dialect) (text : List ℕ) (file : ℕ) → Are (scanned d text file).tokens) where
      module _ (include : Place → List ℕ → GatherState → Result GatherState Stop) (kept : (place : Place) (name : List ℕ) (w : GatherState) → IsKept w → IfOk (include place name w) IsKept) where
        include_kept : (o : Option (Place × List ℕ)) (ts : List Token) (w : GatherState) → Are ts → IsKept w → IfOk (include_token include o ts w) IsLeft
        include_kept (Some (place, file)) ts w g h = then_kept IsKept IsLeft (include place file w) (λ v. Ok (ts, v)) (kept place file w h) (λ v k. (g, k))
        include_kept None ts w g h = (g, h)

        module _ (d : Dialect) (outermost : Bool) (name : List ℕ) where
          part_kept : (first : FirstWord) (t : Token) (ts : List Token) (w : GatherState) → K t.kind → Are ts → IsKept w → IfOk (part include d outermost name first t ts w) IsLeft
          part_kept Define t ts w k g h = define_left d name (t.place) ts w g h
          part_kept Include t ts w k g h = include_kept (quoted_next ts) (behind_name ts) w (behind_kept ts g) h
          part_kept Other t ts w k g h = then_kept IsKept IsLeft (plain_token d outermost name t w) (λ v. Ok (ts, v)) (plain_kept d outermost name t w k h) (λ v j. (g, j))

          tokens_kept : (n : ℕ) (begins : Bool) (ts : List Token) (fault : Option Fault) (w : GatherState) → Are ts → IsKept w → IfOk (from_tokens include d outermost name n begins ts fault w) IsKept
          tokens_kept zero begins ts fault w g h = end_kept name fault w h
          tokens_kept (suc n) begins [] fault w g h = end_kept name fault w h
          tokens_kept (suc n) begins (t ∷ ts) fault w g h =
              then_kept IsLeft IsKept (part include d outermost name (first_word begins (t.kind)) t ts w) (λ p. from_tokens include d outermost name n (ends_line (t.kind)) (p.0) fault (p.1))
              (part_kept (first_word begins (t.kind)) t ts w (head t ts g) (tail t ts g) h)
              (λ p k. tokens_kept n (ends_line (t.kind)) (p.0) fault (p.1) k.0 k.1)

        file_kept : (d : Dialect) (outermost : Bool) (name text : List ℕ) (w : GatherState) → IsKept w → IfOk (file_made d include outermost name text w) IsKept
        file_kept d outermost name text w h =
            let r = scanned d text (file_number w.files name) in
            tokens_kept d outermost name (length r.tokens) true r.tokens r.fault w (scanned_are d text (file_number w.files name)) h

      included_kept : (d : Dialect) (depth : ℕ) (includer : List ℕ) (place : Place) (name : List ℕ) (w : GatherState) → IsKept w → IfOk (include_made d depth includer place name w) IsKept
      included_kept d zero includer place name w h =
          then_kept IsRead IsKept (fetched_file place true (nat_lt 255 (length name)) includer name w) (λ p. Ok (p.1)) (fetched_kept place true (nat_lt 255 (length name)) includer name w h) (λ p k. k)
      included_kept d (suc depth) includer place name w h =
          then_kept IsRead IsKept (fetched_file place false (nat_lt 255 (length name)) includer name w) (λ p. file_made d (include_made d depth name) false name (p.0) (p.1))
          (fetched_kept place false (nat_lt 255 (length name)) includer name w h)
          (λ p k. file_kept (include_made d depth name) (included_kept d depth name) d false name (p.0) (p.1) k)

      whole_kept : (d : Dialect) (depth : ℕ) (name : List ℕ) (w : GatherState) → IsKept w → IfOk (text_made d depth name w) IsKept
      whole_kept d depth name w h =
          let start : Place = record { file = 0; line = 0 } in
          then_kept IsRead IsKept (fetched_file start false false name name w) (λ p. file_made d (include_made d depth name) true name (p.0) (p.1))
          (fetched_kept start false false name name w h)
          (λ p k. file_kept (include_made d depth name) (included_kept d depth name) d true name (p.0) (p.1) k)

      pub gathered_kept : P (record { tokens = []; left = 200000 }) → (d : Dialect) (name : List ℕ) (known : Known) (w : GatherState) → gathered d name known ≡ Ok w → P w.made
      gathered_kept start d name known w is =
          let all : IsKept w = subst (λ r. IfOk r IsKept) is (whole_kept d 10 name (first_gathering known) (start, All-nil IsText)) in
          all.0
