-- The words that are read as a command are those that ask for it.
use Rattle.std.proofs.Common.{◌≡◌, ◌≢◌, ℕ, zero, suc, Bool, true, false, true≢false, if◌then◌else◌, List, [], ◌∷◌, ◌++◌, take, drop, inl, inr, refl, sym, ◌∙◌, ap, subst, Some, None, fold}
use Rattle.std.specs.Prelude.{codes}
use Rattle.std.specs.Str.{bytes_eq}
use Rattle.std.specs.declared.option.Option.{Option}
use Rattle.std.proofs.lemmas.Slice.Eq.{bytes_eq-Decides}
use Rattle.std.proofs.lemmas.List.{take-append-drop}
use Rattle.eft_top.specs.declared.words.Stage.{Stage}
use Rattle.eft_top.specs.declared.words.Stage.TheVariants.{Open, Steps, Closed, Wrong}
use Rattle.ground.specs.declared.token.Dialect.{Dialect}
use Rattle.ground.specs.declared.token.Dialect.TheVariants.{Ratfor, Efl}
use Rattle.eft_top.specs.Words.{Command, Run, Cards, Listing, Deck, steps_in, is_option, Piece, Operand, Joined, Apart, Counting, ArePieces, all_words, operands_in, numbers_in, counts_in, IsEnding, AreSteps, IsOnce, language_word, NameFile, NameText, limit_by, AskFor, IsAsked}
use Rattle.eft_top.specs.Reading.{Reading, Wanted, NamedText, start, with_word, with_steps, with_count, with_operand, read, language_of, in_language, operands, asked, text_by, text_in, run_by, run_of, plain_by, plain_text, cards_of, listing_of, deck_by, deck_of, command_of}

-- the operands that were read: there are two at most
data Taken : Type 0 where
  Neither : Taken
  One : List ℕ → Taken
  Both : List ℕ → List ℕ → Taken

abbrev listed : Taken → List (List ℕ)
listed Neither = []
listed (One l) = l ∷ []
listed (Both l f) = l ∷ f ∷ []

abbrev first : Taken → Option (List ℕ)
first Neither = None
first (One l) = Some l
first (Both l f) = Some l

abbrev second : Taken → Option (List ℕ)
second Neither = None
second (One l) = None
second (Both l f) = Some f

abbrev reading : Stage → Option ℕ → Bool → Taken → Reading
reading stage steps counted taken = record { stage = stage; steps = steps; count = counted; first = first taken; second = second taken }

-- the number that was read, or those still to come, are the number of --steps
abbrev Limits : Option ℕ → List (List ℕ) → Option ℕ → Type 0
Limits None numbers steps' = AreSteps numbers steps'
Limits (Some n) [] steps' = Some n ≡ steps'
Limits (Some n) (number ∷ more) steps' = ⊥

-- --count was read, or is still to come, or neither
abbrev Times : Bool → ℕ → Bool → Type 0
Times false k count' = IsOnce k count'
Times true zero count' = count' ≡ true
Times true (suc k) count' = ⊥

-- both
abbrev Counts : Option ℕ → Bool → List (List ℕ) → ℕ → Option ℕ → Bool → Type 0
Counts steps count numbers k steps' count' = Limits steps numbers steps' × Times count k count'

-- one operand, or two
abbrev wanted_operands : List ℕ → Option (List ℕ) → List (List ℕ)
wanted_operands l None = l ∷ []
wanted_operands l (Some f) = l ∷ f ∷ []

-- the operands read and those still to come are these
abbrev Names : Taken → List (List ℕ) → List ℕ → Option (List ℕ) → Type 0
Names taken more l o = listed taken ++ more ≡ wanted_operands l o

abbrev wanted : Option ℕ → Bool → List ℕ → Option (List ℕ) → Wanted
wanted steps count l o = record { steps = steps; count = count; first = l; second = o }

none_some : {A : Type 0} {a : A} → None ≡ Some a → ⊥
none_some e = cc

some_injective : {A : Type 0} {a b : A} → Some a ≡ Some b → a ≡ b
some_injective e = cc

-- ---- the words of a command are read as that ----

steps_are : (o steps' : Option ℕ) → Limits o [] steps' → o ≡ steps'
steps_are None steps' e = sym e
steps_are (Some n) steps' e = e

count_is : (count count' : Bool) → Times count 0 count' → count ≡ count'
count_is false count' e = sym e
count_is true count' e = sym e

no_operand : (l : List ℕ) (o : Option (List ℕ)) → Names Neither [] l o → ⊥
no_operand l None e = let q = e in cc
no_operand l (Some f) e = let q = e in cc

third_operand : (x y w : List ℕ) (ws : List (List ℕ)) (l : List ℕ) (o : Option (List ℕ)) → Names (Both x y) (w ∷ ws) l o → ⊥
third_operand x y w ws l None e = let q = e in cc
third_operand x y w ws l (Some f) e = let q = e in cc

ends_with_one : (steps steps' : Option ℕ) (count count' : Bool) (x l : List ℕ) (o : Option (List ℕ)) → Counts steps count [] 0 steps' count' → Names (One x) [] l o → operands steps count (Some x) None ≡ Some (wanted steps' count' l o)
ends_with_one steps steps' count count' x l None counts names =
    ap (λ v. Some (wanted v count x None)) (steps_are steps steps' counts.0) ∙ ap (λ v. Some (wanted steps' v x None)) (count_is count count' counts.1) ∙ ap (λ v. Some (wanted steps' count' v None)) (let e = names in cc)
ends_with_one steps steps' count count' x l (Some f) counts names = absurd (let e = names in cc)

ends_with_two : (steps steps' : Option ℕ) (count count' : Bool) (x y l : List ℕ) (o : Option (List ℕ)) → Counts steps count [] 0 steps' count' → Names (Both x y) [] l o → operands steps count (Some x) (Some y) ≡ Some (wanted steps' count' l o)
ends_with_two steps steps' count count' x y l None counts names = absurd (let e = names in cc)
ends_with_two steps steps' count count' x y l (Some f) counts names =
    let is_first : x ≡ l = let e = names in cc in
    let is_second : y ≡ f = let e = names in cc in
    ap (λ v. Some (wanted v count x (Some y))) (steps_are steps steps' counts.0) ∙ ap (λ v. Some (wanted steps' v x (Some y))) (count_is count count' counts.1) ∙ ap (λ v. Some (wanted steps' count' v (Some y))) is_first ∙ ap (λ v. Some (wanted steps' count' l (Some v))) is_second

module _ (steps' : Option ℕ) (count' : Bool) (l : List ℕ) (o : Option (List ℕ)) where
  closed : (last : List (List ℕ)) (steps : Option ℕ) (count : Bool) (taken : Taken) → Counts steps count [] 0 steps' count' → Names taken last l o → asked (fold read (reading Closed steps count taken) last) ≡ Some (wanted steps' count' l o)
  closed [] steps count Neither c n = absurd (no_operand l o n)
  closed [] steps count (One x) c n = ends_with_one steps steps' count count' x l o c n
  closed [] steps count (Both x y) c n = ends_with_two steps steps' count count' x y l o c n
  closed (w ∷ ws) steps count Neither c n = closed ws steps count (One w) c n
  closed (w ∷ ws) steps count (One x) c n = closed ws steps count (Both x w) c n
  closed (w ∷ ws) steps count (Both x y) c n = absurd (third_operand x y w ws l o n)

  open_ends : (steps : Option ℕ) (count : Bool) (taken : Taken) → Counts steps count [] 0 steps' count' → Names taken [] l o → asked (reading Open steps count taken) ≡ Some (wanted steps' count' l o)
  open_ends steps count Neither c n = absurd (no_operand l o n)
  open_ends steps count (One x) c n = ends_with_one steps steps' count count' x l o c n
  open_ends steps count (Both x y) c n = ends_with_two steps steps' count count' x y l o c n

  ended : (last ending : List (List ℕ)) (steps : Option ℕ) (count : Bool) (taken : Taken) → IsEnding last ending → Counts steps count [] 0 steps' count' → Names taken last l o → asked (fold read (reading Open steps count taken) ending) ≡ Some (wanted steps' count' l o)
  ended last ending steps count taken (inl e) c n =
      subst (λ ws. asked (fold read (reading Open steps count taken) ws) ≡ Some (wanted steps' count' l o)) (sym e.1) (open_ends steps count taken c (subst (λ ws. Names taken ws l o) e.0 n))
  ended last ending steps count taken (inr e) c n = subst (λ ws. asked (fold read (reading Open steps count taken) ws) ≡ Some (wanted steps' count' l o)) (sym e) (closed last steps count taken c n)

  one_number : (number : List ℕ) (more : List (List ℕ)) → AreSteps (number ∷ more) steps' → (n : ℕ) × (steps_in number ≡ Some n) × Limits (Some n) more steps'
  one_number number more = by steps' more
    where
      by : (o1 : Option ℕ) (xs : List (List ℕ)) → AreSteps (number ∷ xs) o1 → (n : ℕ) × (steps_in number ≡ Some n) × Limits (Some n) xs o1
      by None [] e = absurd e
      by (Some n) [] e = (n, e, refl)
      by None (other ∷ xs) e = absurd e
      by (Some n) (other ∷ xs) e = absurd e

not_word : (t w : List ℕ) → is_option t ≡ true → is_option w ≡ false → bytes_eq w t ≡ false
not_word t w o n = by (bytes_eq w t) refl
  where
    by : (v : Bool) → bytes_eq w t ≡ v → v ≡ false
    by true e = absurd (true≢false (sym o ∙ (ap is_option (sym ((bytes_eq-Decides w t).0 e)) ∙ n)))
    by false e = refl

joined_again : (w : List ℕ) → take 8 w ≡ codes "--steps=" → w ≡ codes "--steps=" ++ drop 8 w
joined_again w e = sym (take-append-drop 8 w) ∙ ap (λ t. t ++ drop 8 w) e

not_joined : (w : List ℕ) → is_option w ≡ false → bytes_eq (take 8 w) (codes "--steps=") ≡ false
not_joined w n = by (bytes_eq (take 8 w) (codes "--steps=")) refl
  where
    by : (v : Bool) → bytes_eq (take 8 w) (codes "--steps=") ≡ v → v ≡ false
    by true e = absurd (let joined : is_option w ≡ true = ap is_option (joined_again w ((bytes_eq-Decides (take 8 w) (codes "--steps=")).0 e)) in true≢false (sym joined ∙ n))
    by false e = refl

last_of_five : (a b c d e : Bool) → a ≡ false → b ≡ false → c ≡ false → d ≡ false → e ≡ false → (x1 x2 x3 x4 x5 x6 : Reading) → (if a then x1 else (if b then x2 else (if c then x3 else (if d then x4 else (if e then x5 else x6))))) ≡ x6
last_of_five a b c d e ea eb ec ed ee x1 x2 x3 x4 x5 x6 = rw (ea, eb, ec, ed, ee) refl

operand_read : (w : List ℕ) (r : Reading) → is_option w ≡ false → with_word w r ≡ with_operand r.first r.second w r
operand_read w r n =
    last_of_five (bytes_eq w (codes "--")) (bytes_eq w (codes "--steps")) (bytes_eq (take 8 w) (codes "--steps=")) (bytes_eq w (codes "--count")) (is_option w)
    (not_word (codes "--") w refl n) (not_word (codes "--steps") w refl n) (not_joined w n) (not_word (codes "--count") w refl n) n _ _ _ _ _ _

module _ (steps' : Option ℕ) (count' : Bool) (l : List ℕ) (o : Option (List ℕ)) where
  counted_once : (k : ℕ) → IsOnce (suc k) count' → Times true k count'
  counted_once zero e = e
  counted_once (suc k) e = absurd e

  read_right : (ps : List Piece) (last ending : List (List ℕ)) (steps : Option ℕ) (count : Bool) (taken : Taken) → ArePieces ps → IsEnding last ending →
      Counts steps count (numbers_in ps) (counts_in ps) steps' count' → Names taken (operands_in ps ++ last) l o → asked (fold read (reading Open steps count taken) (all_words ps ++ ending)) ≡ Some (wanted steps' count' l o)
  read_right [] last ending steps count taken right ends c n = ended steps' count' l o last ending steps count taken ends c n
  read_right (Operand w ∷ ps) last ending steps count Neither right ends c n =
      subst (λ r. asked (fold read r (all_words ps ++ ending)) ≡ Some (wanted steps' count' l o)) (sym (operand_read w (reading Open steps count Neither) right.0))
      (read_right ps last ending steps count (One w) right.1 ends c n)
  read_right (Operand w ∷ ps) last ending steps count (One x) right ends c n =
      subst (λ r. asked (fold read r (all_words ps ++ ending)) ≡ Some (wanted steps' count' l o)) (sym (operand_read w (reading Open steps count (One x)) right.0))
      (read_right ps last ending steps count (Both x w) right.1 ends c n)
  read_right (Operand w ∷ ps) last ending steps count (Both x y) right ends c n = absurd (third_operand x y w (operands_in ps ++ last) l o n)
  read_right (Joined number ∷ ps) last ending None count taken right ends c n =
      let one = one_number steps' count' l o number (numbers_in ps) c.0 in
      subst (λ m. asked (fold read (with_steps m None (reading Open None count taken)) (all_words ps ++ ending)) ≡ Some (wanted steps' count' l o)) (sym one.1)
      (read_right ps last ending (Some one.0) count taken right.1 ends (one.2, c.1) n)
  read_right (Joined number ∷ ps) last ending (Some k) count taken right ends c n = absurd c.0
  read_right (Apart number ∷ ps) last ending None count taken right ends c n =
      let one = one_number steps' count' l o number (numbers_in ps) c.0 in
      subst (λ m. asked (fold read (with_steps m None (reading Steps None count taken)) (all_words ps ++ ending)) ≡ Some (wanted steps' count' l o)) (sym one.1)
      (read_right ps last ending (Some one.0) count taken right.1 ends (one.2, c.1) n)
  read_right (Apart number ∷ ps) last ending (Some k) count taken right ends c n = absurd c.0
  read_right (Counting ∷ ps) last ending steps false taken right ends c n = read_right ps last ending steps true taken right.1 ends (c.0, counted_once (counts_in ps) c.1) n
  read_right (Counting ∷ ps) last ending steps true taken right ends c n = absurd c.1

-- ---- what is read as a command asks for it ----

steps_back : (o steps' : Option ℕ) → o ≡ steps' → Limits o [] steps'
steps_back None steps' e = sym e
steps_back (Some n) steps' e = e

count_back : (count count' : Bool) → count ≡ count' → Times count 0 count'
count_back false count' e = sym e
count_back true count' e = sym e

same_wanted : (a b : Wanted) → Some a ≡ Some b → a ≡ b
same_wanted a b e = cc

ends_back_one : (steps steps' : Option ℕ) (count count' : Bool) (x l : List ℕ) (o : Option (List ℕ)) → operands steps count (Some x) None ≡ Some (wanted steps' count' l o) → Counts steps count [] 0 steps' count' × Names (One x) [] l o
ends_back_one steps steps' count count' x l o h =
    let is = same_wanted (wanted steps count x None) (wanted steps' count' l o) h in
    ((steps_back steps steps' (ap (λ w. w.steps) is), count_back count count' (ap (λ w. w.count) is)), ap (λ w. wanted_operands w.first w.second) is)

ends_back_two : (steps steps' : Option ℕ) (count count' : Bool) (x y l : List ℕ) (o : Option (List ℕ)) → operands steps count (Some x) (Some y) ≡ Some (wanted steps' count' l o) → Counts steps count [] 0 steps' count' × Names (Both x y) [] l o
ends_back_two steps steps' count count' x y l o h =
    let is = same_wanted (wanted steps count x (Some y)) (wanted steps' count' l o) h in
    ((steps_back steps steps' (ap (λ w. w.steps) is), count_back count count' (ap (λ w. w.count) is)), ap (λ w. wanted_operands w.first w.second) is)

module _ (steps' : Option ℕ) (count' : Bool) (l : List ℕ) (o : Option (List ℕ)) where
  wrong : (ws : List (List ℕ)) (steps : Option ℕ) (count : Bool) (taken : Taken) → asked (fold read (reading Wrong steps count taken) ws) ≡ Some (wanted steps' count' l o) → ⊥
  wrong [] steps count taken h = none_some h
  wrong (w ∷ ws) steps count taken h = wrong ws steps count taken h

  closed_back : (ws : List (List ℕ)) (steps : Option ℕ) (count : Bool) (taken : Taken) → asked (fold read (reading Closed steps count taken) ws) ≡ Some (wanted steps' count' l o) → Counts steps count [] 0 steps' count' × Names taken ws l o
  closed_back [] steps count Neither h = absurd (none_some h)
  closed_back [] steps count (One x) h = ends_back_one steps steps' count count' x l o h
  closed_back [] steps count (Both x y) h = ends_back_two steps steps' count count' x y l o h
  closed_back (w ∷ ws) steps count Neither h = closed_back ws steps count (One w) h
  closed_back (w ∷ ws) steps count (One x) h = closed_back ws steps count (Both x w) h
  closed_back (w ∷ ws) steps count (Both x y) h = absurd (wrong ws steps count (Both x y) h)

  -- the words still to come
  record Found (steps : Option ℕ) (count : Bool) (taken : Taken) (words : List (List ℕ)) : Type 0 where
    pub pieces : List Piece
    pub last : List (List ℕ)
    pub ending : List (List ℕ)
    pub right : ArePieces pieces
    pub ends : IsEnding last ending
    pub words_are : words ≡ all_words pieces ++ ending
    pub counts : Counts steps count (numbers_in pieces) (counts_in pieces) steps' count'
    pub names : Names taken (operands_in pieces ++ last) l o

  -- the same behind --steps
  record FoundNumber (steps : Option ℕ) (count : Bool) (taken : Taken) (words : List (List ℕ)) : Type 0 where
    pub none : steps ≡ None
    pub number : List ℕ
    pub value : ℕ
    pub rest : List (List ℕ)
    pub words_are : words ≡ number ∷ rest
    pub valued : steps_in number ≡ Some value
    pub found : Found (Some value) count taken rest

  abbrev AtOpen : List (List ℕ) → Type 0
  AtOpen ws = (steps : Option ℕ) (count : Bool) (taken : Taken) → asked (fold read (reading Open steps count taken) ws) ≡ Some (wanted steps' count' l o) → Found steps count taken ws

  abbrev AtSteps : List (List ℕ) → Type 0
  AtSteps ws = (steps : Option ℕ) (count : Bool) (taken : Taken) → asked (fold read (reading Steps steps count taken) ws) ≡ Some (wanted steps' count' l o) → FoundNumber steps count taken ws

  counts_on : (number : List ℕ) (value : ℕ) (more : List (List ℕ)) → steps_in number ≡ Some value → Limits (Some value) more steps' → AreSteps (number ∷ more) steps'
  counts_on number value [] e c = subst (AreSteps (number ∷ [])) c e
  counts_on number value (other ∷ more) e c = absurd c

  open_end : AtOpen []
  open_end steps count Neither h = absurd (none_some h)
  open_end steps count (One x) h =
      let r = ends_back_one steps steps' count count' x l o h in
      record { pieces = []; last = []; ending = []; right = tt; ends = inl (refl, refl); words_are = refl; counts = r.0; names = r.1 }
  open_end steps count (Both x y) h =
      let r = ends_back_two steps steps' count count' x y l o h in
      record { pieces = []; last = []; ending = []; right = tt; ends = inl (refl, refl); words_are = refl; counts = r.0; names = r.1 }

  number_read : (w : List ℕ) (ws : List (List ℕ)) (stage : Stage) (steps : Option ℕ) (count : Bool) (taken : Taken) → AtOpen ws → (m : Option ℕ) → steps_in w ≡ m →
      asked (fold read (with_steps m steps (reading stage steps count taken)) ws) ≡ Some (wanted steps' count' l o) → FoundNumber steps count taken (w ∷ ws)
  number_read w ws stage None count taken on (Some n) e h = record { none = refl; number = w; value = n; rest = ws; words_are = refl; valued = e; found = on (Some n) count taken h }
  number_read w ws stage (Some m) count taken on (Some n) e h = absurd (wrong ws (Some m) count taken h)
  number_read w ws stage None count taken on None e h = absurd (wrong ws None count taken h)
  number_read w ws stage (Some m) count taken on None e h = absurd (wrong ws (Some m) count taken h)

  joined_found : (w : List ℕ) (ws : List (List ℕ)) (steps : Option ℕ) (count : Bool) (taken : Taken) → w ≡ codes "--steps=" ++ drop 8 w → FoundNumber steps count taken (drop 8 w ∷ ws) → Found steps count taken (w ∷ ws)
  joined_found w ws steps count taken is f = record {
    pieces = Joined f.number ∷ f.found.pieces;
    last = f.found.last;
    ending = f.found.ending;
    right = (tt, f.found.right);
    ends = f.found.ends;
    words_are = let e = f.words_are in let number : drop 8 w ≡ f.number = cc in let rest : ws ≡ f.rest = cc in
        ap (λ x. x ∷ ws) (is ∙ ap (λ x. codes "--steps=" ++ x) number) ∙ ap (λ xs. (codes "--steps=" ++ f.number) ∷ xs) (rest ∙ f.found.words_are);
    counts = (subst (λ m. Limits m (f.number ∷ numbers_in f.found.pieces) steps') (sym f.none) (counts_on f.number f.value (numbers_in f.found.pieces) f.valued f.found.counts.0), f.found.counts.1);
    names = f.found.names;
  }

  apart_found : (w : List ℕ) (ws : List (List ℕ)) (steps : Option ℕ) (count : Bool) (taken : Taken) → w ≡ codes "--steps" → FoundNumber steps count taken ws → Found steps count taken (w ∷ ws)
  apart_found w ws steps count taken is f = record {
    pieces = Apart f.number ∷ f.found.pieces;
    last = f.found.last;
    ending = f.found.ending;
    right = (tt, f.found.right);
    ends = f.found.ends;
    words_are = ap (λ x. x ∷ ws) is ∙ ap (λ xs. codes "--steps" ∷ xs) (f.words_are ∙ ap (λ xs. f.number ∷ xs) f.found.words_are);
    counts = (subst (λ m. Limits m (f.number ∷ numbers_in f.found.pieces) steps') (sym f.none) (counts_on f.number f.value (numbers_in f.found.pieces) f.valued f.found.counts.0), f.found.counts.1);
    names = f.found.names;
  }

  counted_back : (k : ℕ) → Times true k count' → IsOnce (suc k) count'
  counted_back zero e = e
  counted_back (suc k) e = absurd e

  counting_found : (w : List ℕ) (ws : List (List ℕ)) (steps : Option ℕ) (taken : Taken) → w ≡ codes "--count" → Found steps true taken ws → Found steps false taken (w ∷ ws)
  counting_found w ws steps taken is f = record {
    pieces = Counting ∷ f.pieces;
    last = f.last;
    ending = f.ending;
    right = (tt, f.right);
    ends = f.ends;
    words_are = ap (λ x. x ∷ ws) is ∙ ap (λ xs. codes "--count" ∷ xs) f.words_are;
    counts = (f.counts.0, counted_back (counts_in f.pieces) f.counts.1);
    names = f.names;
  }

  operand_found : (w : List ℕ) (ws : List (List ℕ)) (steps : Option ℕ) (count : Bool) (before after : Taken) → is_option w ≡ false → ((more : List (List ℕ)) → Names after more l o → Names before (w ∷ more) l o) → Found steps count after ws → Found steps count before (w ∷ ws)
  operand_found w ws steps count before after plain names f = record {
    pieces = Operand w ∷ f.pieces;
    last = f.last;
    ending = f.ending;
    right = (plain, f.right);
    ends = f.ends;
    words_are = ap (λ xs. w ∷ xs) f.words_are;
    counts = f.counts;
    names = names (operands_in f.pieces ++ f.last) f.names;
  }

  module _ (w : List ℕ) (ws : List (List ℕ)) (on : AtOpen ws) (at_number : AtSteps ws) (steps : Option ℕ) (count : Bool) where
    operand_back : (taken : Taken) → is_option w ≡ false → asked (fold read (with_operand (first taken) (second taken) w (reading Open steps count taken)) ws) ≡ Some (wanted steps' count' l o) → Found steps count taken (w ∷ ws)
    operand_back Neither plain h = operand_found w ws steps count Neither (One w) plain (λ more n. n) (on steps count (One w) h)
    operand_back (One x) plain h = operand_found w ws steps count (One x) (Both x w) plain (λ more n. n) (on steps count (Both x w) h)
    operand_back (Both x y) plain h = absurd (wrong ws steps count (Both x y) h)

    module _ (taken : Taken) where
      abbrev r : Reading
      r = reading Open steps count taken

      by_operand : (v : Bool) → is_option w ≡ v → asked (fold read (if v then reading Wrong steps count taken else with_operand (first taken) (second taken) w r) ws) ≡ Some (wanted steps' count' l o) → Found steps count taken (w ∷ ws)
      by_operand true e h = absurd (wrong ws steps count taken h)
      by_operand false e h = operand_back taken e h

      counted : (known : Bool) → w ≡ codes "--count" → asked (fold read (with_count known (reading Open steps known taken)) ws) ≡ Some (wanted steps' count' l o) → Found steps known taken (w ∷ ws)
      counted true e h = absurd (wrong ws steps true taken h)
      counted false e h = counting_found w ws steps taken e (on steps true taken h)

      by_count : (v : Bool) → bytes_eq w (codes "--count") ≡ v → asked (fold read (if v then with_count count r else (if is_option w then reading Wrong steps count taken else with_operand (first taken) (second taken) w r)) ws) ≡ Some (wanted steps' count' l o) → Found steps count taken (w ∷ ws)
      by_count true e h = counted count ((bytes_eq-Decides w (codes "--count")).0 e) h
      by_count false e h = by_operand (is_option w) refl h

      by_joined : (v : Bool) → bytes_eq (take 8 w) (codes "--steps=") ≡ v →
          asked (fold read (if v then with_steps (steps_in (drop 8 w)) steps r else (if bytes_eq w (codes "--count") then with_count count r else (if is_option w then reading Wrong steps count taken else with_operand (first taken) (second taken) w r))) ws) ≡ Some (wanted steps' count' l o) → Found steps count taken (w ∷ ws)
      by_joined true e h =
          joined_found w ws steps count taken (joined_again w ((bytes_eq-Decides (take 8 w) (codes "--steps=")).0 e))
          (number_read (drop 8 w) ws Open steps count taken on (steps_in (drop 8 w)) refl h)
      by_joined false e h = by_count (bytes_eq w (codes "--count")) refl h

      by_steps : (v : Bool) → bytes_eq w (codes "--steps") ≡ v →
          asked (fold read (if v then reading Steps steps count taken else (if bytes_eq (take 8 w) (codes "--steps=") then with_steps (steps_in (drop 8 w)) steps r else (if bytes_eq w (codes "--count") then with_count count r else (if is_option w then reading Wrong steps count taken else with_operand (first taken) (second taken) w r)))) ws) ≡ Some (wanted steps' count' l o) → Found steps count taken (w ∷ ws)
      by_steps true e h = apart_found w ws steps count taken ((bytes_eq-Decides w (codes "--steps")).0 e) (at_number steps count taken h)
      by_steps false e h = by_joined (bytes_eq (take 8 w) (codes "--steps=")) refl h

      by_end : (v : Bool) → bytes_eq w (codes "--") ≡ v →
          asked (fold read (if v then reading Closed steps count taken else (if bytes_eq w (codes "--steps") then reading Steps steps count taken else (if bytes_eq (take 8 w) (codes "--steps=") then with_steps (steps_in (drop 8 w)) steps r else (if bytes_eq w (codes "--count") then with_count count r else (if is_option w then reading Wrong steps count taken else with_operand (first taken) (second taken) w r))))) ws) ≡ Some (wanted steps' count' l o) → Found steps count taken (w ∷ ws)
      by_end true e h =
          let back = closed_back ws steps count taken h in
          record { pieces = []; last = ws; ending = codes "--" ∷ ws; right = tt; ends = inr refl; words_are = ap (λ x. x ∷ ws) ((bytes_eq-Decides w (codes "--")).0 e); counts = back.0; names = back.1 }
      by_end false e h = by_steps (bytes_eq w (codes "--steps")) refl h

  found_at : (ws : List (List ℕ)) → AtOpen ws × AtSteps ws
  found_at [] = (open_end, λ steps count taken h. absurd (none_some h))
  found_at (w ∷ ws) =
      let more = found_at ws in
      (λ steps count taken h. by_end w ws more.0 more.1 steps count taken (bytes_eq w (codes "--")) refl h, λ steps count taken h. number_read w ws Steps steps count taken more.0 (steps_in w) refl h)

-- ---- both ways ----

file_read : (rest : List (List ℕ)) (steps' : Option ℕ) (count' : Bool) (before : List (List ℕ)) (file l : List ℕ) (o : Option (List ℕ)) → before ++ file ∷ [] ≡ wanted_operands l o → NameFile steps' count' before file rest → asked (fold read start rest) ≡ Some (wanted steps' count' l o)
file_read rest steps' count' before file l o are h =
    let shuffled = h.shuffled in
    let right =
    read_right steps' count' l o shuffled.pieces shuffled.last shuffled.ending None false Neither shuffled.right shuffled.ends
    (subst (λ ns. AreSteps ns steps') shuffled.numbers_are h.limited, subst (λ k. IsOnce k count') shuffled.counts_are h.counted) (sym shuffled.operands_are ∙ are) in
    subst (λ ws. asked (fold read start ws) ≡ Some (wanted steps' count' l o)) (sym shuffled.words_are) right

file_back : (rest : List (List ℕ)) (w : Wanted) (before : List (List ℕ)) (file : List ℕ) → wanted_operands w.first w.second ≡ before ++ file ∷ [] → file ≢ [] → asked (fold read start rest) ≡ Some w → NameFile w.steps w.count before file rest
file_back rest w before file are named h =
    let f = (found_at w.steps w.count w.first w.second rest).0 None false Neither h in
    record {
      numbers = numbers_in f.pieces;
      counts = counts_in f.pieces;
      shuffled = record { pieces = f.pieces; last = f.last; ending = f.ending; right = f.right; ends = f.ends; words_are = f.words_are; numbers_are = refl; counts_are = refl; operands_are = sym are ∙ sym f.names };
      limited = f.counts.0;
      counted = f.counts.1;
      named = named;
    }

-- ---- texts ----

not_empty : (w : List ℕ) → w ≢ [] → bytes_eq w [] ≡ false
not_empty w n = by (bytes_eq w []) refl
  where
    by : (v : Bool) → bytes_eq w [] ≡ v → v ≡ false
    by true e = absurd (n ((bytes_eq-Decides w []).0 e))
    by false e = refl

some_bytes : (w : List ℕ) → bytes_eq w [] ≡ false → w ≢ []
some_bytes w e empty = true≢false (sym ((bytes_eq-Decides w []).1 empty) ∙ e)

language_read : (d : Dialect) → language_of (language_word d) ≡ Some d
language_read Ratfor = refl
language_read Efl = refl

language_back : (w : List ℕ) (d : Dialect) → language_of w ≡ Some d → w ≡ language_word d
language_back w d h = by (bytes_eq w (codes "ratfor")) (bytes_eq w (codes "efl")) refl refl h
  where
    same : (x y : Dialect) → Some x ≡ Some y → x ≡ y
    same x y e = cc

    by : (u v : Bool) → bytes_eq w (codes "ratfor") ≡ u → bytes_eq w (codes "efl") ≡ v → (if u then Some Ratfor else (if v then Some Efl else None)) ≡ Some d → w ≡ language_word d
    by true v a b e = (bytes_eq-Decides w (codes "ratfor")).0 a ∙ ap language_word (same Ratfor d e)
    by false true a b e = (bytes_eq-Decides w (codes "efl")).0 b ∙ ap language_word (same Efl d e)
    by false false a b e = absurd (none_some e)

abbrev text : Dialect → List ℕ → NamedText
text d file = record { language = d; file = file }

text_named : (d : Dialect) (file : List ℕ) → file ≢ [] → text_by (language_word d) (Some file) ≡ Some (text d file)
text_named d file named = ap (λ v. if v then None else in_language file (language_of (language_word d))) (not_empty file named) ∙ ap (in_language file) (language_read d)

-- what is read as a text was named so
record Named (l : List ℕ) (o : Option (List ℕ)) (t : NamedText) : Type 0 where
  pub operands : wanted_operands l o ≡ language_word t.language ∷ t.file ∷ []
  pub named : t.file ≢ []

named_back : (l : List ℕ) (o : Option (List ℕ)) (t : NamedText) → text_by l o ≡ Some t → Named l o t
named_back l None t e = absurd (none_some e)
named_back l (Some file) t e = by (bytes_eq file []) (language_of l) refl refl e
  where
    same : (a b : NamedText) → Some a ≡ Some b → a ≡ b
    same a b i = cc

    by : (v : Bool) (d : Option Dialect) → bytes_eq file [] ≡ v → language_of l ≡ d → (if v then None else in_language file d) ≡ Some t → Named l (Some file) t
    by true d a b i = absurd (none_some i)
    by false None a b i = absurd (none_some i)
    by false (Some d) a b i =
        let is = same (text d file) t i in
        record {
          operands = ap (λ x. x ∷ file ∷ []) (language_back l d b) ∙ ap (λ x. language_word x.language ∷ x.file ∷ []) is;
          named = subst (λ x. x.file ≢ []) is (some_bytes file a);
        }

text_read : (rest : List (List ℕ)) (steps' : Option ℕ) (count' : Bool) (language : Dialect) (file : List ℕ) → NameText steps' count' language file rest → asked (fold read start rest) ≡ Some (wanted steps' count' (language_word language) (Some file))
text_read rest steps' count' language file h = file_read rest steps' count' (language_word language ∷ []) file (language_word language) (Some file) refl h

text_back : (rest : List (List ℕ)) (w : Wanted) (t : NamedText) → asked (fold read start rest) ≡ Some w → text_in w ≡ Some t → NameText w.steps w.count t.language t.file rest
text_back rest w t h e = let is = named_back w.first w.second t e in file_back rest w (language_word t.language ∷ []) t.file is.operands is.named h

plain_read : (rest : List (List ℕ)) (language : Dialect) (file : List ℕ) → NameText None false language file rest → plain_text (asked (fold read start rest)) ≡ Some (text language file)
plain_read rest language file h = ap plain_text (text_read rest None false language file h) ∙ text_named language file h.named

plain_back : (rest : List (List ℕ)) (t : NamedText) → plain_text (asked (fold read start rest)) ≡ Some t → NameText None false t.language t.file rest
plain_back rest t h = by (asked (fold read start rest)) refl h
  where
    by_options : (w : Wanted) (steps : Option ℕ) (count : Bool) → asked (fold read start rest) ≡ Some w → w.steps ≡ steps → w.count ≡ count → plain_by steps count (text_in w) ≡ Some t → NameText None false t.language t.file rest
    by_options w (Some n) count is s k e = absurd (none_some e)
    by_options w None true is s k e = absurd (none_some e)
    by_options w None false is s k e = subst (λ c. NameText None c t.language t.file rest) k (subst (λ o. NameText o w.count t.language t.file rest) s (text_back rest w t is e))

    by : (o : Option Wanted) → asked (fold read start rest) ≡ o → plain_text o ≡ Some t → NameText None false t.language t.file rest
    by None is e = absurd (none_some e)
    by (Some w) is e = by_options w w.steps w.count is refl refl e

-- ---- commands ----

pub read_as : (words : List (List ℕ)) (command : Command) → AskFor words command → command_of words ≡ Some command
read_as words (Run limit count language file) h =
    subst (λ ws. command_of ws ≡ Some (Run limit count language file)) (sym h.1)
    (ap run_of (text_read h.0 h.2 count language file h.3) ∙ ap (run_by h.2 count) (text_named language file h.3.named) ∙ ap (λ n. Some (Run n count language file)) (sym h.4))
read_as words (Cards language file) h =
    subst (λ ws. command_of ws ≡ Some (Cards language file)) (sym h.1) (ap cards_of (plain_read h.0 language file h.2))
read_as words (Listing language file) h =
    subst (λ ws. command_of ws ≡ Some (Listing language file)) (sym h.1) (ap listing_of (plain_read h.0 language file h.2))
read_as words (Deck limit file) h =
    subst (λ ws. command_of ws ≡ Some (Deck limit file)) (sym h.1)
    (ap deck_of (file_read h.0 h.2 false [] file file None refl h.3) ∙ ap (λ v. if v then None else Some (Deck (limit_by h.2) file)) (not_empty file h.3.named) ∙ ap (λ n. Some (Deck n file)) (sym h.4))

same_command : (a b : Command) → Some a ≡ Some b → a ≡ b
same_command a b e = cc

module _ (rest : List (List ℕ)) (command : Command) where
  run_back : run_of (asked (fold read start rest)) ≡ Some command → AskFor (codes "run" ∷ rest) command
  run_back h = by (asked (fold read start rest)) refl h
    where
      by_text : (w : Wanted) (t : Option NamedText) → asked (fold read start rest) ≡ Some w → text_in w ≡ t → run_by w.steps w.count t ≡ Some command → AskFor (codes "run" ∷ rest) command
      by_text w None is e c = absurd (none_some c)
      by_text w (Some t) is e c = subst (AskFor (codes "run" ∷ rest)) (same_command (Run (limit_by w.steps) w.count t.language t.file) command c) (rest, refl, w.steps, text_back rest w t is e, refl)

      by : (o : Option Wanted) → asked (fold read start rest) ≡ o → run_of o ≡ Some command → AskFor (codes "run" ∷ rest) command
      by None is e = absurd (none_some e)
      by (Some w) is e = by_text w (text_in w) is refl e

  cards_back : cards_of (plain_text (asked (fold read start rest))) ≡ Some command → AskFor (codes "cards" ∷ rest) command
  cards_back h = by (plain_text (asked (fold read start rest))) refl h
    where
      by : (o : Option NamedText) → plain_text (asked (fold read start rest)) ≡ o → cards_of o ≡ Some command → AskFor (codes "cards" ∷ rest) command
      by None is e = absurd (none_some e)
      by (Some t) is e = subst (AskFor (codes "cards" ∷ rest)) (same_command (Cards t.language t.file) command e) (rest, refl, plain_back rest t is)

  listing_back : listing_of (plain_text (asked (fold read start rest))) ≡ Some command → AskFor (codes "listing" ∷ rest) command
  listing_back h = by (plain_text (asked (fold read start rest))) refl h
    where
      by : (o : Option NamedText) → plain_text (asked (fold read start rest)) ≡ o → listing_of o ≡ Some command → AskFor (codes "listing" ∷ rest) command
      by None is e = absurd (none_some e)
      by (Some t) is e = subst (AskFor (codes "listing" ∷ rest)) (same_command (Listing t.language t.file) command e) (rest, refl, plain_back rest t is)

  deck_back : deck_of (asked (fold read start rest)) ≡ Some command → AskFor (codes "deck" ∷ rest) command
  deck_back h = by (asked (fold read start rest)) refl h
    where
      by_file : (w : Wanted) (count : Bool) (second : Option (List ℕ)) (empty : Bool) → asked (fold read start rest) ≡ Some w → w.count ≡ count → w.second ≡ second → bytes_eq w.first [] ≡ empty → deck_by w.steps count w.first second ≡ Some command → AskFor (codes "deck" ∷ rest) command
      by_file w true None empty is k s e c = absurd (none_some c)
      by_file w true (Some other) empty is k s e c = absurd (none_some c)
      by_file w false (Some other) empty is k s e c = absurd (none_some c)
      by_file w false None true is k s e c = absurd (none_some (sym (ap (λ v. if v then None else Some (Deck (limit_by w.steps) w.first)) e) ∙ c))
      by_file w false None false is k s e c =
          let said = sym (ap (λ v. if v then None else Some (Deck (limit_by w.steps) w.first)) e) ∙ c in
          subst (AskFor (codes "deck" ∷ rest)) (same_command (Deck (limit_by w.steps) w.first) command said)
          (rest, refl, w.steps, subst (λ n. NameFile w.steps n [] w.first rest) k (file_back rest w [] w.first (ap (wanted_operands w.first) s) (some_bytes w.first e) is), refl)

      by : (o : Option Wanted) → asked (fold read start rest) ≡ o → deck_of o ≡ Some command → AskFor (codes "deck" ∷ rest) command
      by None is e = absurd (none_some e)
      by (Some w) is e = by_file w w.count w.second (bytes_eq w.first []) is refl refl refl e

pub asked_by : (words : List (List ℕ)) (command : Command) → command_of words ≡ Some command → AskFor words command
asked_by [] command h = absurd (none_some h)
asked_by (word ∷ rest) command h = by (bytes_eq word (codes "run")) (bytes_eq word (codes "cards")) (bytes_eq word (codes "listing")) (bytes_eq word (codes "deck")) refl refl refl refl h
  where
    by : (u v x t : Bool) → bytes_eq word (codes "run") ≡ u → bytes_eq word (codes "cards") ≡ v → bytes_eq word (codes "listing") ≡ x → bytes_eq word (codes "deck") ≡ t →
        (if u then run_of (asked (fold read start rest)) else (if v then cards_of (plain_text (asked (fold read start rest))) else (if x then listing_of (plain_text (asked (fold read start rest))) else (if t then deck_of (asked (fold read start rest)) else None)))) ≡ Some command → AskFor (word ∷ rest) command
    by true v x t a b c d e = subst (λ y. AskFor (y ∷ rest) command) (sym ((bytes_eq-Decides word (codes "run")).0 a)) (run_back rest command e)
    by false true x t a b c d e = subst (λ y. AskFor (y ∷ rest) command) (sym ((bytes_eq-Decides word (codes "cards")).0 b)) (cards_back rest command e)
    by false false true t a b c d e = subst (λ y. AskFor (y ∷ rest) command) (sym ((bytes_eq-Decides word (codes "listing")).0 c)) (listing_back rest command e)
    by false false false true a b c d e = subst (λ y. AskFor (y ∷ rest) command) (sym ((bytes_eq-Decides word (codes "deck")).0 d)) (deck_back rest command e)
    by false false false false a b c d e = absurd (none_some e)

-- what is read is what is asked for
pub is_asked : (words : List (List ℕ)) (read : Option Command) → read ≡ command_of words → IsAsked (AskFor words) read
is_asked words (Some command) e = asked_by words command (sym e)
is_asked words None e = λ command h. none_some (e ∙ read_as words command h)

-- words ask for one command at most
pub one_command : (words : List (List ℕ)) (a b : Command) → AskFor words a → AskFor words b → a ≡ b
one_command words a b h k = same (sym (read_as words a h) ∙ read_as words b k)
  where
    same : Some a ≡ Some b → a ≡ b
    same e = cc
