-- The table derives each list of READ and WRITE of the published grammar.
use Rattle.std.proofs.Common.{◌≡◌, None, List, [], ◌∷◌, refl, ap}
use Rattle.ground.specs.declared.place.Place.{Place}
use Rattle.ground.specs.declared.token.TokenKind.TheVariants as kinds
use Rattle.ground.specs.declared.token.Sign.TheVariants as signs
use Rattle.f66_tree.specs.Syntax as f66
use Rattle.f66_tree.specs.Syntax.{Text, Par, Entries, AndEntry}
use Rattle.f66_tree.specs.Views.{listed}
use Rattle.rat_parse_table.specs.declared.table.Terminal.TheVariants as t
use Rattle.rat_parse_table.specs.declared.table.Nonterminal.TheVariants as n
use Rattle.rat_parse_table.specs.declared.table.Production.TheVariants as p
use Rattle.rat_parse_table.specs.Words.{reserved, terminal_in}
use Rattle.rat_parse_values.specs.Values.{entry, entries, rest}
use Rattle.rat_parse_values.specs.Kinds as part
use Rattle.rat_grammar.specs.Tokens.{Tokens, token, one, capitals, name}
use Rattle.rat_grammar.specs.Expressions as e
use Rattle.rat_grammar.specs.Declarations as d
use Rattle.rat_grammar.specs.Laws.{IsSome}
use Rattle.rat_grammar.proofs.Derivations.{given}
use Rattle.rat_grammar.proofs.Steps.{FoundPart, make, found_token, found_empty}
use Rattle.rat_grammar.proofs.ExpressionsFound.{FoundExprs, found_name, found_ref, found_exprs, found_subscripts}
use Rattle.rat_grammar.proofs.DeclarationsFound.{found_range}

abbrev loop_rest : List f66.Entry → Text → part.Range → part.LoopRest
loop_rest es x r = record { list = es; variable = x; range = r }

-- the later entries of an implied DO, with its variable and parameters
record FoundRest (a b : Tokens) (es : Entries) (x : Text) (r : part.Range) : Type 0 where
  list : List f66.Entry
  is : listed list ≡ es
  found : FoundPart n.LoopRest a b (rest (loop_rest list x r))

-- all that stands in its parentheses
record FoundLoop (a b : Tokens) (es : Entries) (x : Text) (r : part.Range) : Type 0 where
  first : f66.Entry
  others : List f66.Entry
  middle : Tokens
  place : Place
  is : listed (first ∷ others) ≡ es
  found : FoundPart n.Entry a (token (kinds.Sign signs.Comma) place ∷ middle) (entry first)
  more : FoundPart n.LoopRest middle b (rest (loop_rest others x r))

the_loop : {a b : Tokens} {q : Place} {es : Entries} {x : Text} {r : part.Range} → FoundLoop a b es x r →
    FoundPart n.Loop (token (kinds.Sign signs.Open) q ∷ a) b (entry (f66.Many es x r.first r.last r.step))
the_loop {x = x} {r = r} k = given (ap (λ z. entry (f66.Many z x r.first r.last r.step)) k.is)
    (make p.Loop tt _ _ _ (found_token t.Open _ _ refl) _ _ k.found _ _ (found_token t.Comma _ _ refl) _ _ k.more)

the_end : {a b : Tokens} {w : Text} {q q1 q2 : Place} {u v z : Par} → terminal_in reserved w ≡ None → d.Range a (token (kinds.Sign signs.Close) q2 ∷ b) u v z →
    FoundPart n.LoopRest (token (kinds.Word w) q ∷ token (kinds.Sign signs.Assign) q1 ∷ a) b (rest (loop_rest [] (capitals w) (record { first = u; last = v; step = z })))
the_end h r = make p.LoopName tt _ _ _ (found_name _ _ _ h) _ _
    (make p.LoopRange tt _ _ _ (found_token t.Assign _ _ refl) _ _ (found_range r tt) _ _ (found_token t.Close _ _ refl))

item_before : {a c b : Tokens} {q : Place} {f : _} {es : List f66.Entry} {x : Text} {r : part.Range} → e.Ref a (token (kinds.Sign signs.Comma) q ∷ c) f →
    FoundPart n.LoopRest c b (rest (loop_rest es x r)) → FoundPart n.LoopRest a b (rest (loop_rest (f66.One f ∷ es) x r))
item_before (e.name (name h)) k = make p.LoopName tt _ _ _ (found_name _ _ _ h) _ _ (make p.LoopScalar tt _ _ _ (found_token t.Comma _ _ refl) _ _ k)
item_before {es = es} {x = x} {r = r} (e.applied (name {w = w} h) one fs one) k =
    let all : FoundExprs _ _ _ = found_exprs fs tt in
    given (ap (λ z. rest (loop_rest (f66.One (f66.Item (capitals w) z) ∷ es) x r)) all.is)
    (make p.LoopName tt _ _ _ (found_name _ _ _ h) _ _
    (make p.LoopElement tt _ _ _ (make p.Element tt _ _ _ (found_subscripts all)) _ _ (found_token t.Comma _ _ refl) _ _ k))

mutual
  found_entry : {a b : Tokens} {x : f66.Entry} → d.Entry a b x → IsSome b → FoundPart n.Entry a b (entry x)
  found_entry (d.item r) s = make p.ItemEntry tt _ _ _ (found_ref r s)
  found_entry (d.loop one es one (name h) one r one) s = make p.LoopEntry tt _ _ _ (the_loop (found_loop es (the_end h r)))

  entry_before : {a c b : Tokens} {q : Place} {y : f66.Entry} {es : List f66.Entry} {x : Text} {r : part.Range} → d.Entry a (token (kinds.Sign signs.Comma) q ∷ c) y →
      FoundPart n.LoopRest c b (rest (loop_rest es x r)) → FoundPart n.LoopRest a b (rest (loop_rest (y ∷ es) x r))
  entry_before (d.item f) k = item_before f k
  entry_before (d.loop one es one (name h) one r one) k =
      make p.LoopLoop tt _ _ _ (the_loop (found_loop es (the_end h r))) _ _ (found_token t.Comma _ _ refl) _ _ k

  found_loop : {a c b : Tokens} {q : Place} {es : Entries} {x : Text} {r : part.Range} → d.SomeEntries a (token (kinds.Sign signs.Comma) q ∷ c) es →
      FoundPart n.LoopRest c b (rest (loop_rest [] x r)) → FoundLoop a b es x r
  found_loop (d.last y) k = record { first = _; others = []; middle = _; place = _; is = refl; found = found_entry y tt; more = k }
  found_loop (d.comma {e = x} y one es) k =
      let r : FoundRest _ _ _ _ _ = found_rest es k in
      record { first = x; others = r.list; middle = _; place = _; is = ap (λ z. AndEntry x z) r.is; found = found_entry y tt; more = r.found }

  found_rest : {a c b : Tokens} {q : Place} {es : Entries} {x : Text} {r : part.Range} → d.SomeEntries a (token (kinds.Sign signs.Comma) q ∷ c) es →
      FoundPart n.LoopRest c b (rest (loop_rest [] x r)) → FoundRest a b es x r
  found_rest (d.last {e = x} y) k = record { list = x ∷ []; is = refl; found = entry_before y k }
  found_rest (d.comma {e = x} y one es) k =
      let r : FoundRest _ _ _ _ _ = found_rest es k in
      record { list = x ∷ r.list; is = ap (λ z. AndEntry x z) r.is; found = entry_before y r.found }

record FoundSome (a b : Tokens) (es : Entries) : Type 0 where
  first : f66.Entry
  others : List f66.Entry
  middle : Tokens
  is : listed (first ∷ others) ≡ es
  found : FoundPart n.Entry a middle (entry first)
  more : FoundPart n.EntryMore middle b (entries others)

found_some : {a b : Tokens} {es : Entries} → d.SomeEntries a b es → IsSome b → FoundSome a b es
found_some (d.last y) s = record { first = _; others = []; middle = _; is = refl; found = found_entry y s; more = found_empty p.NoMoreEntry refl (λ k. refl) s }
found_some (d.comma {e = x} y one es) s =
    let r : FoundSome _ _ _ = found_some es s in
    record {
      first = x;
      others = r.first ∷ r.others;
      middle = _;
      is = ap (λ z. AndEntry x z) r.is;
      found = found_entry y tt;
      more = make p.MoreEntry tt _ _ _ (found_token t.Comma _ _ refl) _ _ r.found _ _ r.more;
    }

pub record FoundEntries (a b : Tokens) (es : Entries) : Type 0 where
  pub list : List f66.Entry
  pub is : listed list ≡ es
  pub found : FoundPart n.Entries a b (entries list)

pub found_entries : {a b : Tokens} {es : Entries} → d.AnyEntries a b es → IsSome b → FoundEntries a b es
found_entries d.none s = record { list = []; is = refl; found = found_empty p.NoEntries refl (λ k. refl) s }
found_entries (d.some q) s =
    let r : FoundSome _ _ _ = found_some q s in
    record { list = r.first ∷ r.others; is = r.is; found = make p.SomeEntries tt _ _ _ r.found _ _ r.more }
