-- Facts of what is known of a library before and after some fetches, one after the other.
use Rattle.std.proofs.Common.{◌≡◌, ℕ, ◌==◌, ◌&&◌, Bool, true, false, not, List, [], ◌∷◌, ◌++◌, length, refl, sym, ◌∙◌, ap, subst, append_assoc, Some, None, Ok, Err, inl, inr, if◌then◌else◌}
use Rattle.std.specs.Prelude.{Option, Vec, IfSome, Result}
use Rattle.std.specs.Str.{is_utf8, IsUtf8}
use Rattle.std.specs.declared.alloc.Global.{Global}
use Rattle.std.proofs.lemmas.List.{append-nil}
use Rattle.std.proofs.lemmas.Str.{is_utf8-from_IsUtf8, IsUtf8-from_is_utf8}
use Rattle.ground.specs.declared.fault.Fault.{Fault}
use Rattle.ground.specs.declared.fault.FaultKind.TheVariants.{IncludeMissing}
use Rattle.ground.specs.declared.fault.Refusal.TheVariants.{Fault as Faulty}
use Rattle.ground.specs.declared.place.Place.{Place}
use Rattle.macro_define.specs.declared.gathering.Gathering.{Gathering}
use Rattle.ports.specs.Held.{fetched}
use Rattle.macro_define.specs.Answers.{Answers, Holds, InTurn, Through, after_fetch, answer, knows}
use Rattle.macro_define.specs.Expansion.{GatherState, can_hold, fetched_file, held_under, in_file, stop_in, wanting, with_text}
use Rattle.macro_define.specs.declared.refusal.TextRefusal.{TextRefusal}
use Rattle.macro_define.specs.Gathered.{Asks, Fetches, IsInFile, world}
use Rattle.ground.specs.Faults.{fault_at}

abbrev Files : Type 0
Files = Option (List ℕ → Option (List ℕ))

-- without a fetch
pub through-none : (files : Files) (F : List (List ℕ) → Type 0) (P : Answers → Answers → Type 0) → F [] → ((a : Answers) → P a a) → Through files F P
through-none None F P none all =
    ([], (none, ([], λ more past. subst (λ (l : List (List ℕ)). P (knows (InTurn more) past) (knows (InTurn more) l)) (sym (append-nil past)) (all (knows (InTurn more) past)))))
through-none (Some held) F P none all =
    ([], (none, λ past. subst (λ (l : List (List ℕ)). P (knows (Holds held) past) (knows (Holds held) l)) (sym (append-nil past)) (all (knows (Holds held) past))))

pub through-map : (files : Files) (F : List (List ℕ) → Type 0) (P Q : Answers → Answers → Type 0) → Through files F P → ((a b : Answers) → P a b → Q a b) → Through files F Q
through-map None F P Q h on =
    (h.0, (h.1.0, (h.1.1.0, λ more past. on (knows (InTurn (h.1.1.0 ++ more)) past) (knows (InTurn more) (past ++ h.0)) (h.1.1.1 more past))))
through-map (Some held) F P Q h on = (h.0, (h.1.0, λ past. on (knows (Holds held) past) (knows (Holds held) (past ++ h.0)) (h.1.1 past)))

-- fetches, and then others
pub through-then : (files : Files) (F G H : List (List ℕ) → Type 0) (P Q R : Answers → Answers → Type 0)
    → ((xs ys : List (List ℕ)) → F xs → G ys → H (xs ++ ys)) → Through files F P → Through files G Q → ((a b c : Answers) → P a b → Q b c → R a c) → Through files H R
through-then None F G H P Q R row h k on =
    let both : (more : List (Option (List ℕ))) (past : List (List ℕ)) → R (knows (InTurn (h.1.1.0 ++ (k.1.1.0 ++ more))) past) (knows (InTurn more) ((past ++ h.0) ++ k.0)) =
    λ more past. on (knows (InTurn (h.1.1.0 ++ (k.1.1.0 ++ more))) past) (knows (InTurn (k.1.1.0 ++ more)) (past ++ h.0)) (knows (InTurn more) ((past ++ h.0) ++ k.0))
    (h.1.1.1 (k.1.1.0 ++ more) past) (k.1.1.1 more (past ++ h.0)) in (
      h.0 ++ k.0,
      (
        row h.0 k.0 h.1.0 k.1.0,
        (
          h.1.1.0 ++ k.1.1.0,
          λ more past.
              subst (λ (l : List (Option (List ℕ))). R (knows (InTurn l) past) (knows (InTurn more) (past ++ (h.0 ++ k.0)))) (sym (append_assoc h.1.1.0 k.1.1.0 more))
              (subst (λ (l : List (List ℕ)). R (knows (InTurn (h.1.1.0 ++ (k.1.1.0 ++ more))) past) (knows (InTurn more) l)) (append_assoc past h.0 k.0) (both more past)),
        ),
      ),
    )
through-then (Some held) F G H P Q R row h k on = (
  h.0 ++ k.0,
  (
    row h.0 k.0 h.1.0 k.1.0,
    λ past.
        subst (λ (l : List (List ℕ)). R (knows (Holds held) past) (knows (Holds held) l)) (append_assoc past h.0 k.0)
        (on (knows (Holds held) past) (knows (Holds held) (past ++ h.0)) (knows (Holds held) ((past ++ h.0) ++ k.0)) (h.1.1 past) (k.1.1 (past ++ h.0))),
  ),
)

-- the same of another object that tells the same
pub through-same : (files others : Files) (F : List (List ℕ) → Type 0) (P : Answers → Answers → Type 0) → others ≡ files → Through others F P → Through files F P
through-same files others F P e h = subst (λ f. Through f F P) e h

-- a name that can be fetched
can : (name : List ℕ) → is_utf8 name ≡ true → (length name == 0) ≡ false → can_hold name ≡ true
can name text long = ap (λ b. b && not (length name == 0)) text ∙ ap (λ b. not b) long

under : (name : List ℕ) (a : Answers) → can_hold name ≡ true → held_under name a ≡ answer a.known name
under name a holds = ap (λ b. if b then answer a.known name else None) holds

wanted : (name : List ℕ) (a : Answers) → can_hold name ≡ true → wanting name a ≡ after_fetch name a
wanted name a holds = ap (λ b. if b then after_fetch name a else a) holds

asked : (got : Option (Vec ℕ Global)) (name : List ℕ) (before after : Answers) → held_under name before ≡ fetched got → after ≡ wanting name before → Asks name (Ok got) before after
asked None name before after e f = (e, f)
asked (Some text) name before after e f = (e, f)

-- a fetch
pub through-fetch : (files : Files) (F : List (List ℕ) → Type 0) (name : List ℕ) (got : Option (Vec ℕ Global)) → F (name ∷ []) → IsUtf8 name → (length name == 0) ≡ false
    → IfSome files (λ held. fetched got ≡ held name) → Through files F (λ before after. Asks name (Ok got) before after)
through-fetch None F name got one text long h =
    let holds = can name (is_utf8-from_IsUtf8 name text) long in (
      name ∷ [],
      (
        one,
        (
          fetched got ∷ [],
          λ more past.
              let before = knows (InTurn (fetched got ∷ more)) past in
              asked got name before (knows (InTurn more) (past ++ name ∷ [])) (under name before holds) (sym (wanted name before holds)),
        ),
      ),
    )
through-fetch (Some held) F name got one text long h =
    let holds = can name (is_utf8-from_IsUtf8 name text) long in (
      name ∷ [],
      (
        one,
        λ past.
            let before = knows (Holds held) past in
            asked got name before (knows (Holds held) (past ++ name ∷ [])) (under name before holds ∙ sym h) (sym (wanted name before holds)),
      ),
    )

-- a fetch without an answer
pub through-failed : (files : Files) (F : List (List ℕ) → Type 0) (P : Answers → Answers → Type 0) (name : List ℕ) → F (name ∷ []) → ((a b : Answers) → P a b) → Through files F P
through-failed None F P name one all = (name ∷ [], (one, ([], λ more past. all (knows (InTurn more) past) (knows (InTurn more) (past ++ name ∷ [])))))
through-failed (Some held) F P name one all = (name ∷ [], (one, λ past. all (knows (Holds held) past) (knows (Holds held) (past ++ name ∷ []))))

-- a name that cannot be fetched
no_name : (name : List ℕ) (b : Bool) → is_utf8 name ≡ b → (IsUtf8 name → ⊥) → b ≡ false
no_name name true e not_text = absurd (not_text (IsUtf8-from_is_utf8 name e))
no_name name false e not_text = refl

no_text : (b empty : Bool) → empty ≡ true → (b && not empty) ≡ false
no_text true empty e = ap not e
no_text false empty e = refl

pub through-not_held : (files : Files) (F : List (List ℕ) → Type 0) (name : List ℕ) → F [] → can_hold name ≡ false → Through files F (λ before after. Asks name (Ok None) before after)
through-not_held files F name none not_held =
    through-none files F (λ before after. Asks name (Ok None) before after) none
    (λ a. (ap (λ b. if b then answer a.known name else None) not_held, sym (ap (λ b. if b then after_fetch name a else a) not_held)))

pub through-no_name : (files : Files) (F : List (List ℕ) → Type 0) (name : List ℕ) → F [] → (IsUtf8 name → ⊥) → Through files F (λ before after. Asks name (Ok None) before after)
through-no_name files F name none not_text = through-not_held files F name none (ap (λ b. b && not (length name == 0)) (no_name name (is_utf8 name) refl not_text))

pub through-empty : (files : Files) (F : List (List ℕ) → Type 0) (name : List ℕ) → F [] → (length name == 0) ≡ true → Through files F (λ before after. Asks name (Ok None) before after)
through-empty files F name none empty = through-not_held files F name none (no_text (is_utf8 name) (length name == 0) empty)

-- a file that is not there
pub fetched-missing : (includer : List ℕ) (place : Place) (too_deep too_long : Bool) (name : List ℕ) (g h : Gathering) (fault : Fault) (e : TextRefusal)
    → IsInFile includer (Faulty fault) e → fault ≡ fault_at place IncludeMissing
    → (a b : Answers) → Asks name (Ok None) a b → Fetches (fetched_file place too_deep too_long includer name (world g a)) (Err e) (world h b)
fetched-missing includer place too_deep too_long name g h fault e (inl is) missing a b asks =
    subst (λ (q : TextRefusal). Fetches (fetched_file place too_deep too_long includer name (world g a)) (Err q) (world h b)) (sym is)
    (ap (λ o. in_file includer (wanting name a) (with_text place too_deep too_long name (record (world g a) { answers = wanting name a }) o)) asks.0
    ∙ ap (λ x. Err (stop_in includer x (fault_at place IncludeMissing))) (sym asks.1)
    ∙ ap (λ f. Err (stop_in includer b f)) (sym missing))
fetched-missing includer place too_deep too_long name g h fault e (inr is) missing a b asks =
    subst (λ (q : TextRefusal). Fetches (fetched_file place too_deep too_long includer name (world g a)) (Err q) (world h b)) (sym is) Prim.tt

-- a text that was fetched and then counted
pub fetched-counted : (includer : List ℕ) (place : Place) (too_deep too_long : Bool) (name : List ℕ) (old new : Answers → GatherState) (r : Result (Vec ℕ Global) TextRefusal) (text : Vec ℕ Global)
    → ((x : Answers) → Fetches (in_file includer x (with_text place too_deep too_long name (old x) (Some text.items))) r (new x))
    → (a b : Answers) → Asks name (Ok (Some text)) a b → Fetches (in_file includer (wanting name a) (with_text place too_deep too_long name (old (wanting name a)) (held_under name a))) r (new b)
fetched-counted includer place too_deep too_long name old new r text counts a b h =
    subst (λ (o : Option (List ℕ)). Fetches (in_file includer (wanting name a) (with_text place too_deep too_long name (old (wanting name a)) o)) r (new b)) (sym h.0)
    (subst (λ (x : Answers). Fetches (in_file includer (wanting name a) (with_text place too_deep too_long name (old (wanting name a)) (Some text.items))) r (new x)) (sym h.1) (counts (wanting name a)))
