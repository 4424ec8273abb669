-- The ties of a unit are those that it has by itself, of its rows in the program.
use Rattle.std.proofs.Common.{◌≡◌, ◌+◌, ℕ, suc, pos, List, [], ◌∷◌, ◌++◌, map, length, Option, sym, ◌∙◌, ap, refl, arith, append_assoc}
use Rattle.std.proofs.lemmas.List.{map-append, append-nil}
use Rattle.std.specs.List.{flat_map}
use Rattle.f66_tree.specs.Syntax.{Text, Formula, Declared, Area, Act, Common, Equivalence, Line, Routine}
use Rattle.f66_tree.specs.Units.{Context}
use Rattle.f66_program.specs.Mentions.{context_of}
use Rattle.f66_program.specs.Association.{Own, Block, Tie, Filled, filled, not_filled, size_in, list_ties, list_end, area_ties, Member, member_of, tie_members, group_ties, act_ties, act_filled, line_ties, unit_ties, ties_from, ties_of}
use Rattle.program_storage.specs.Whole.{in_unit}

abbrev pub moved : ℕ → Tie → Tie
moved u t = record { from = in_unit u t.from; to = in_unit u t.to; by = t.by }

moved_list : (u : ℕ) (c : Context) (b : Option Text) (at : ℕ) (ds : List Declared) → map (moved u) (list_ties 0 c b at ds) ≡ list_ties u c b at ds
moved_list u c b at [] = refl
moved_list u c b at (d ∷ ds) = ap (λ ts. record { from = Own u d.name; to = Block b; by = pos at } ∷ ts) (moved_list u c b (at + size_in c d.name) ds)

both : (u : ℕ) (xs ys : List Tie) (xs' ys' : List Tie) → map (moved u) xs ≡ xs' → map (moved u) ys ≡ ys' → map (moved u) (xs ++ ys) ≡ xs' ++ ys'
both u xs ys xs' ys' e f = map-append (moved u) xs ys ∙ ap (λ zs. zs ++ map (moved u) ys) e ∙ ap (λ zs. xs' ++ zs) f

moved_areas : (u : ℕ) (c : Context) (f : Filled) (areas : List Area) → map (moved u) (area_ties 0 c f areas) ≡ area_ties u c f areas
moved_areas u c f [] = refl
moved_areas u c f (a ∷ areas) = both u (list_ties 0 c a.name (f a.name) a.list) _ _ _ (moved_list u c a.name (f a.name) a.list) (moved_areas u c (filled a.name (list_end c (f a.name) a.list) f) areas)

moved_members : (u : ℕ) (m : Member) (ms : List Member) → map (moved u) (map (tie_members 0 m) ms) ≡ map (tie_members u m) ms
moved_members u m [] = refl
moved_members u m (k ∷ ms) = ap (λ ts. tie_members u m k ∷ ts) (moved_members u m ms)

moved_group : (u : ℕ) (ms : List Member) → map (moved u) (group_ties 0 ms) ≡ group_ties u ms
moved_group u [] = refl
moved_group u (m ∷ ms) = moved_members u m ms

moved_groups : (u : ℕ) (c : Context) (groups : List (List Formula)) →
    map (moved u) (flat_map (λ es. group_ties 0 (flat_map (member_of c) es)) groups) ≡ flat_map (λ es. group_ties u (flat_map (member_of c) es)) groups
moved_groups u c [] = refl
moved_groups u c (es ∷ groups) = both u (group_ties 0 (flat_map (member_of c) es)) _ _ _ (moved_group u (flat_map (member_of c) es)) (moved_groups u c groups)

moved_act : (u : ℕ) (c : Context) (f : Filled) (a : Act) → map (moved u) (act_ties 0 c f a) ≡ act_ties u c f a
moved_act u c f (Common areas) = moved_areas u c f areas
moved_act u c f (Equivalence groups) = moved_groups u c groups
moved_act u c f _ = refl

moved_lines : (u : ℕ) (c : Context) (f : Filled) (lines : List Line) → map (moved u) (line_ties 0 c f lines) ≡ line_ties u c f lines
moved_lines u c f [] = refl
moved_lines u c f (s ∷ lines) = both u (act_ties 0 c f s.act) _ _ _ (moved_act u c f s.act) (moved_lines u c (act_filled c f s.act) lines)

pub moved_unit : (u : ℕ) (r : Routine) → map (moved u) (unit_ties 0 r) ≡ unit_ties u r
moved_unit u r = moved_lines u (context_of r) not_filled r.lines

-- one unit more

ties_from-push : (s : ℕ) (rs : List Routine) (r : Routine) (n : ℕ) → n ≡ s + length rs → ties_from s (rs ++ r ∷ []) ≡ ties_from s rs ++ unit_ties n r
ties_from-push s [] r n e = append-nil (unit_ties s r) ∙ ap (λ n. unit_ties n r) (omega (arith, e))
ties_from-push s (q ∷ rs) r n e =
    ap (λ ts. unit_ties s q ++ ts) (ties_from-push (suc s) rs r n (omega (arith, e))) ∙ sym (append_assoc (unit_ties s q) (ties_from (suc s) rs) (unit_ties n r))

pub ties_of-push : (rs : List Routine) (r : Routine) → ties_of (rs ++ r ∷ []) ≡ ties_of rs ++ unit_ties (length rs) r
ties_of-push rs r = ties_from-push 0 rs r (length rs) (omega arith)
