-- Numbers along words, in tables that grow.
use Rattle.std.proofs.Common.{◌≡◌, ℕ, List, [], ◌∷◌, ◌++◌, flat_map, Option, Some, None, ap, ◌∙◌}
use Rattle.std.specs.Option.{option_and_then}
use Rattle.efl_tree.specs.declared.declaration.EflBound.{EflBound}
use Rattle.efl_scoped.specs.Numbers.{Table, Grows, along, bound_words}
use Rattle.efl_scoped.specs.Seen.{Leads}

pub grows_same : (f : Table) → Grows f f
grows_same f a b n is = is

pub grows_on : (f g h : Table) → Grows f g → Grows g h → Grows f h
grows_on f g h first second a b n is = second a b n (first a b n is)

pub along_both : (f : Table) (ws vs : List ℕ) (k n : ℕ) → along f ws k ≡ Some n → along f (ws ++ vs) k ≡ along f vs n
along_both f [] vs k n is = let e : k ≡ n = cc in ap (along f vs) e
along_both f (w ∷ ws) vs k n is = each (λ j. along_both f ws vs j n) (f k w) is
  where
    each : ((j : ℕ) → along f ws j ≡ Some n → along f (ws ++ vs) j ≡ along f vs n) → (o : Option ℕ) →
        option_and_then (along f ws) o ≡ Some n → option_and_then (along f (ws ++ vs)) o ≡ along f vs n
    each rest None is = absurd cc
    each rest (Some j) is = rest j is

pub leads_one : (f g : Table) (k w n : ℕ) → Grows f g → g k w ≡ Some n → Leads f (w ∷ []) k g n
leads_one f g k w n grows is = record { grows = grows; leads = λ h more. ap (option_and_then (along h [])) (more k w n is) }

pub leads_both : (f g h : Table) (ws vs : List ℕ) (k n m : ℕ) → Leads f ws k g n → Leads g vs n h m → Leads f (ws ++ vs) k h m
leads_both f g h ws vs k n m first second = record {
  grows = grows_on f g h first.grows second.grows;
  leads = λ t more. along_both t ws vs k n (first.leads t (grows_on g h t second.grows more)) ∙ second.leads t more;
}

-- an array whose bounds before are told
pub record BoundsLeft (f : Table) (e : ℕ) (bs : List EflBound) (g : Table) (rest : List EflBound) (n : ℕ) : Type 0 where
  pub grows : Grows f g
  pub leads : (h : Table) → Grows g h → along h (e ∷ flat_map bound_words bs) 3 ≡ along h (flat_map bound_words rest) n

pub bounds_begun : (f g : Table) (e : ℕ) (bs : List EflBound) (n : ℕ) → Grows f g → g 3 e ≡ Some n → BoundsLeft f e bs g bs n
bounds_begun f g e bs n grows is = record {
  grows = grows;
  leads = λ h more. ap (option_and_then (along h (flat_map bound_words bs))) (more 3 e n is);
}

pub bound_passed : (f g h : Table) (e : ℕ) (bs : List EflBound) (b : EflBound) (rest : List EflBound) (n m : ℕ) →
    BoundsLeft f e bs g (b ∷ rest) n → Leads g (bound_words b) n h m → BoundsLeft f e bs h rest m
bound_passed f g h e bs b rest n m left next = record {
  grows = grows_on f g h left.grows next.grows;
  leads = λ t more. left.leads t (grows_on g h t next.grows more) ∙ along_both t (bound_words b) (flat_map bound_words rest) n m (next.leads t more);
}

pub bounds_ended : (f g : Table) (e : ℕ) (bs : List EflBound) (n : ℕ) → BoundsLeft f e bs g [] n → Leads f (e ∷ flat_map bound_words bs) 3 g n
bounds_ended f g e bs n left = record { grows = left.grows; leads = left.leads }
