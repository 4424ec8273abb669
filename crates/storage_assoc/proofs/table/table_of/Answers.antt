-- The blocks and names that are listed are the table.
use Rattle.std.proofs.Common.{◌≡◌, ◌<◌, ◌^◌, ◌+◌, ◌∙◌, ◌++◌, ℕ, suc, List, [], Option, Some, length, map, replicate, option_map, unwrap_or, ap, sym, subst, arith}
use Rattle.std.proofs.lemmas.List.{length-map}
use Rattle.std.proofs.lemmas.Simd.{map-map}
use Rattle.std.specs.HashMap.{get_by}
use Rattle.std.specs.Str.{bytes_eq}
use Rattle.f66_tree.specs.Syntax.{Par}
use Rattle.f66_tree.specs.Units.{sizes_of}
use Rattle.f66_tree.specs.Views.{act_of, line_of, par_of, routine_of}
use Rattle.rule_table.specs.Words.{find_map}
use Rattle.f66_mentions.specs.Dimensions.{dims_in}
use Rattle.std.specs.List.{list_any}
use Rattle.f66_program.specs.Mentions.{context_of, has_places}
use Rattle.f66_program.specs.Linking.{names_block}
use Rattle.f66_program.specs.Association.{size_in}
use Rattle.f66_mentions.proofs.DimensionLemmas.{sizes_given}
use Rattle.storage_assoc.specs.Listings.{AreNumberedFrom, capped, is_found, names_in, number_of_name}
use Rattle.storage_assoc.specs.Tables.{IsTableOf}
use Rattle.storage_assoc.specs.Groups.{dims_by}
use Rattle.storage_assoc.specs.Naming.{AreListedBy, index_by}
use Rattle.storage_assoc.proofs.RowLemmas.{rows, is_listed, are_labelled}
use Rattle.storage_assoc.proofs.NamingLemmas.{is_table}
use Rattle.storage_assoc.proofs.table.table_of.Goals as goal

pub returns : goal.returns
returns c =
    let r = routine_of c.args.unit.now in
    let unit = c.in_ok-names.names in
    let find = number_of_name c.in_ok-listing.listing in
    let blocks = number_of_name c.in_ok-labels.labels in
    let dims : List ℕ → Option (List Par) = λ q. option_map (λ ps. map par_of ps.now) (get_by (λ k. bytes_eq q k.now) unit.dims) in
    let labels = names_in c.in_ok-labels.labels in
    let names = names_in c.in_ok-listing.listing in
    let sizes = c.in_ok-sizes.sizes.items in
    let unit_is : unit.unit.now ≡ c.args.unit.now = c.in_ok-names.ensures in
    let number : c.len-count.result ≡ length labels = grind (arith, length-map) in
    let count_is : c.len-count.result + 1 ≡ suc (length labels) = omega (arith, number) in
    let bl : AreNumberedFrom 1 labels blocks = c.in_ok-labels.ensures.listing in
    let nl : AreNumberedFrom (suc (length labels)) names find = subst (λ n. AreNumberedFrom n names find) count_is c.in_ok-listing.ensures.listing in
    let blocks_are : (q : List ℕ) → is_found (blocks q) ≡ list_any (λ s. names_block (Some q) s.act) r.lines =
    λ q. c.in_ok-labels.ensures.listed q ∙ ap (λ ss. list_any (λ s. names_block (Some q) s.act) (map line_of ss)) c.deref.ensures.value in
    let names_are : (q : List ℕ) → is_found (find q) ≡ has_places r q = λ q. c.in_ok-listing.ensures.listed q ∙ ap (λ u. has_places (routine_of u) q) unit_is in
    let sizes_are : sizes ≡ replicate (suc (length labels)) 0 ++ map (λ x. capped (size_in (context_of r) x)) names =
    c.in_ok-sizes.ensures
    ∙ ap (λ n. replicate n 0 ++ map (λ x. capped (size_in (context_of (routine_of unit.unit.now)) x.now)) c.deref-2.result.now) count_is
    ∙ ap (λ u. replicate (suc (length labels)) 0 ++ map (λ x. capped (size_in (context_of (routine_of u)) x.now)) c.deref-2.result.now) unit_is
    ∙ ap (λ xs. replicate (suc (length labels)) 0 ++ map (λ x. capped (size_in (context_of r) x.now)) xs) c.deref-2.ensures.value
    ∙ ap (λ ys. replicate (suc (length labels)) 0 ++ ys) (sym (map-map (λ x. capped (size_in (context_of r) x)) (λ n. n.now) c.in_ok-listing.listing.names.items)) in
    let shapes : (x : List ℕ) → sizes_of x (context_of r).notes ≡ dims_by dims x =
    λ x. sizes_given x c.args.unit.now.statements.items ∙ ap (λ u. unwrap_or (find_map (dims_in x) (map (λ s. act_of s.kind) u.statements.items)) []) (sym unit_is)
    ∙ ap (λ o. unwrap_or o []) (sym (unit.dims_are x)) in
    let bounded : length sizes < 2 ^ 31 = grind (arith, c.if-len.false) in
    let all = rows r find blocks dims labels names sizes c.requires.ready bl nl blocks_are names_are sizes_are shapes bounded in
    let listed = is_listed r find blocks dims labels names sizes c.requires.ready bl nl blocks_are names_are sizes_are shapes bounded in
    let labelled = are_labelled r find blocks dims labels names sizes c.requires.ready bl nl blocks_are names_are sizes_are shapes bounded in
    record {
      table = subst (λ n. IsTableOf r find blocks dims sizes n) (sym count_is) (all, index_by find blocks, is_table r find blocks dims sizes (suc (length labels)) all c.requires.ready listed);
      listed = subst (λ n. AreListedBy r find blocks dims sizes n labels) (sym count_is) (all, listed, labelled);
    }
