-- The ties of units: each unit speaks of its own names and of blocks, whatever its number is.
use Rattle.std.proofs.Common.{◌≡◌, ◌+◌, ℕ, ℤ, pos, List, [], ◌∷◌, ◌++◌, map, Option, ◌∙◌, ap, refl, subst}
use Rattle.std.proofs.lemmas.List.{get_or-map, length-map, map-append}
use Rattle.std.proofs.lemmas.List.Elements.{All-nil, All-cons, All-append, All-map}
use Rattle.std.specs.List.{All, Contains, flat_map}
use Rattle.f66_tree.specs.Syntax.{Text, Formula, Declared, Area, Act, Common, Equivalence, Line, Routine}
use Rattle.f66_tree.specs.Units.{Context}
use Rattle.f66_program.specs.Mentions.{context_of}
use Rattle.f66_program.specs.Association.{Row, Own, Block, Tie, IsSame, by_tie, itself, back, onward, AreBad, twice, joined, before, IsBadUnit, Filled, filled, not_filled, size_in, list_ties, list_end, area_ties, Member, member_of, tie_members, group_ties, act_ties, act_filled, line_ties, unit_ties}
use Rattle.f66_program.proofs.WholeLemmas.{IsOwned}

Contains-map : {X Y : Type 0} (f : X → Y) (xs : List X) (x : X) → Contains xs x → Contains (map f xs) (f x)
Contains-map f xs x c = (c.0, rw length-map c.1, get_or-map f xs c.0 x (f x) c.1 ∙ ap f c.2)

abbrev pub IsOwnTie : ℕ → Tie → Type 0
IsOwnTie u t = IsOwned u t.from × IsOwned u t.to

own_list : (u : ℕ) (c : Context) (b : Option Text) (at : ℕ) (ds : List Declared) → All (IsOwnTie u) (list_ties u c b at ds)
own_list u c b at [] = All-nil (IsOwnTie u)
own_list u c b at (d ∷ ds) = All-cons (IsOwnTie u) _ (list_ties u c b (at + size_in c d.name) ds) (refl, tt) (own_list u c b (at + size_in c d.name) ds)

own_areas : (u : ℕ) (c : Context) (f : Filled) (areas : List Area) → All (IsOwnTie u) (area_ties u c f areas)
own_areas u c f [] = All-nil (IsOwnTie u)
own_areas u c f (a ∷ areas) =
    All-append (IsOwnTie u) (list_ties u c a.name (f a.name) a.list) _ (own_list u c a.name (f a.name) a.list) (own_areas u c (filled a.name (list_end c (f a.name) a.list) f) areas)

own_group : (u : ℕ) (ms : List Member) → All (IsOwnTie u) (group_ties u ms)
own_group u [] = All-nil (IsOwnTie u)
own_group u (m ∷ ms) = All-map (IsOwnTie u) (tie_members u m) ms (λ k d k_in. (refl, refl))

own_groups : (u : ℕ) (c : Context) (groups : List (List Formula)) → All (IsOwnTie u) (flat_map (λ es. group_ties u (flat_map (member_of c) es)) groups)
own_groups u c [] = All-nil (IsOwnTie u)
own_groups u c (es ∷ groups) = All-append (IsOwnTie u) (group_ties u (flat_map (member_of c) es)) _ (own_group u (flat_map (member_of c) es)) (own_groups u c groups)

own_act : (u : ℕ) (c : Context) (f : Filled) (a : Act) → All (IsOwnTie u) (act_ties u c f a)
own_act u c f (Common areas) = own_areas u c f areas
own_act u c f (Equivalence groups) = own_groups u c groups
own_act u c f _ = All-nil (IsOwnTie u)

pub own_lines : (u : ℕ) (c : Context) (f : Filled) (lines : List Line) → All (IsOwnTie u) (line_ties u c f lines)
own_lines u c f [] = All-nil (IsOwnTie u)
own_lines u c f (s ∷ lines) = All-append (IsOwnTie u) (act_ties u c f s.act) _ (own_act u c f s.act) (own_lines u c (act_filled c f s.act) lines)

-- the same ties of a unit with the number 0

abbrev ground : Row → Row
ground (Own u x) = Own 0 x
ground (Block b) = Block b

abbrev retied : Tie → Tie
retied t = record { from = ground t.from; to = ground t.to; by = t.by }

same_list : (u : ℕ) (c : Context) (b : Option Text) (at : ℕ) (ds : List Declared) → map retied (list_ties u c b at ds) ≡ list_ties 0 c b at ds
same_list u c b at [] = refl
same_list u c b at (d ∷ ds) = ap (λ ts. record { from = Own 0 d.name; to = Block b; by = pos at } ∷ ts) (same_list u c b (at + size_in c d.name) ds)

both : (xs ys : List Tie) (xs' ys' : List Tie) → map retied xs ≡ xs' → map retied ys ≡ ys' → map retied (xs ++ ys) ≡ xs' ++ ys'
both xs ys xs' ys' e f = map-append retied xs ys ∙ ap (λ zs. zs ++ map retied ys) e ∙ ap (λ zs. xs' ++ zs) f

same_areas : (u : ℕ) (c : Context) (f : Filled) (areas : List Area) → map retied (area_ties u c f areas) ≡ area_ties 0 c f areas
same_areas u c f [] = refl
same_areas u c f (a ∷ areas) = both (list_ties u c a.name (f a.name) a.list) _ _ _ (same_list u c a.name (f a.name) a.list) (same_areas u c (filled a.name (list_end c (f a.name) a.list) f) areas)

same_members : (u : ℕ) (m : Member) (ms : List Member) → map retied (map (tie_members u m) ms) ≡ map (tie_members 0 m) ms
same_members u m [] = refl
same_members u m (k ∷ ms) = ap (λ ts. tie_members 0 m k ∷ ts) (same_members u m ms)

same_group : (u : ℕ) (ms : List Member) → map retied (group_ties u ms) ≡ group_ties 0 ms
same_group u [] = refl
same_group u (m ∷ ms) = same_members u m ms

same_groups : (u : ℕ) (c : Context) (groups : List (List Formula)) →
    map retied (flat_map (λ es. group_ties u (flat_map (member_of c) es)) groups) ≡ flat_map (λ es. group_ties 0 (flat_map (member_of c) es)) groups
same_groups u c [] = refl
same_groups u c (es ∷ groups) = both (group_ties u (flat_map (member_of c) es)) _ _ _ (same_group u (flat_map (member_of c) es)) (same_groups u c groups)

same_act : (u : ℕ) (c : Context) (f : Filled) (a : Act) → map retied (act_ties u c f a) ≡ act_ties 0 c f a
same_act u c f (Common areas) = same_areas u c f areas
same_act u c f (Equivalence groups) = same_groups u c groups
same_act u c f _ = refl

same_lines : (u : ℕ) (c : Context) (f : Filled) (lines : List Line) → map retied (line_ties u c f lines) ≡ line_ties 0 c f lines
same_lines u c f [] = refl
same_lines u c f (s ∷ lines) = both (act_ties u c f s.act) _ _ _ (same_act u c f s.act) (same_lines u c (act_filled c f s.act) lines)

same_retied : (ts : List Tie) {a b : Row} {d : ℤ} → IsSame ts a b d → IsSame (map retied ts) (ground a) (ground b) d
same_retied ts (by_tie t c) = by_tie (retied t) (Contains-map retied ts t c)
same_retied ts (itself a) = itself (ground a)
same_retied ts (back h) = back (same_retied ts h)
same_retied ts (onward h k) = onward (same_retied ts h) (same_retied ts k)

bad_retied : (ts : List Tie) → AreBad ts → AreBad (map retied ts)
bad_retied ts (twice ne h) = twice ne (same_retied ts h)
bad_retied ts (joined ne h) = joined ne (same_retied ts h)
bad_retied ts (before less h) = before less (same_retied ts h)

pub bad_unit : (u : ℕ) (r : Routine) → AreBad (unit_ties u r) → IsBadUnit r
bad_unit u r b = subst AreBad (same_lines u (context_of r) not_filled r.lines) (bad_retied (unit_ties u r) b)
