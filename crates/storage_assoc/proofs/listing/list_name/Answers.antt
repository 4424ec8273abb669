-- A name that is new takes the next number.
use Rattle.std.proofs.Common.{◌≡◌, ◌+◌, ◌∙◌, ◌∷◌, ◌++◌, [], cond, ap, length, map, subst, sym, arith, ℕ, List, Option, None, Some}
use Rattle.std.proofs.lemmas.List.{length-map, map-append}
use Rattle.std.proofs.lemmas.Map.Text.{hash_map_updates_str}
use Rattle.std.specs.HashMap.{get_by}
use Rattle.std.specs.Str.{bytes_eq}
use Rattle.storage_assoc.specs.Listings.{AreNumberedFrom, names_in, number_of_name}
use Rattle.storage_assoc.proofs.ListingLemmas.{found_more, listed_more, not_found}
use Rattle.storage_assoc.proofs.listing.list_name.Goals as goal

pub returns-clause-listing : goal.returns-clause-listing
returns-clause-listing c =
    let first = c.args.first in
    let old = c.args.listing.now in
    let y = c.args.name.now in
    let find : List ℕ → Option ℕ = λ q. get_by (λ k. bytes_eq q k.now) c.insert.new.self in
    let absent : number_of_name old y ≡ None = not_found (number_of_name old y) (sym c.is_listed.ensures ∙ c.if-is_listed.false) in
    let number : c.len.result ≡ length (names_in old) = grind (arith, length-map) in
    let updated : (q : List ℕ) → find q ≡ cond (bytes_eq y q) (Some (first + length (names_in old))) (number_of_name old q) =
    λ q. hash_map_updates_str y old.numbers c.insert.new.self _ c.in_ok-insert.ensures.updates q ∙ ap (λ n. cond (bytes_eq y q) (Some (first + n)) (number_of_name old q)) number in
    let names : names_in old ++ y ∷ [] ≡ map (λ n. n.now) c.push.new.self.items =
    sym (ap (map (λ n. n.now)) c.in_ok-push.ensures.items ∙ map-append (λ n. n.now) old.names.items (c.args.name ∷ [])) in
    subst (λ ns. AreNumberedFrom first ns find) names (listed_more first (names_in old) (number_of_name old) find y c.requires.listing absent updated)

pub returns-clause-listed : goal.returns-clause-listed
returns-clause-listed c = λ q.
    found_more (number_of_name c.args.listing.now) (λ p. get_by (λ k. bytes_eq p k.now) c.insert.new.self) c.args.name.now _
    (λ p. hash_map_updates_str c.args.name.now c.args.listing.now.numbers c.insert.new.self _ c.in_ok-insert.ensures.updates p) q
