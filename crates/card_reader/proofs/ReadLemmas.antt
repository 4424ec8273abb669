-- A fault at a card is the fault of the deck.
use Rattle.std.proofs.Common.{◌≡◌, ℕ, ◌≤◌, List, [], ◌∷◌, length, map, Option, None, refl, sym, ap, subst, ◌∙◌}
use Rattle.std.proofs.lemmas.Bool.{le-ltb}
use Rattle.ground.specs.declared.fault.Fault.{Fault}
use Rattle.ground.specs.declared.fault.Refusal.{Refusal}
use Rattle.ports.specs.Records.{input_records}
use Rattle.card_reader.specs.declared.counts.Counts.{Counts}
use Rattle.card_reader.specs.Cards.{card}
use Rattle.card_reader.specs.Reading.{CardLine, Reading, read_cards, no_counts, read_deck_cards}
use Rattle.card_reader.specs.Told.{Begun, Told, told, Refuses}

pub not_too_long : (bytes : List ℕ) → length bytes ≤ 134217728 → read_deck_cards bytes ≡ read_cards 0 no_counts 1 (map card (input_records bytes))
not_too_long bytes h = let short = le-ltb 134217728 (length bytes) h in rw short refl

pub refused : (bytes rest line others columns : List ℕ) (ls : List CardLine) (d : Option Begun) (c : Counts) (n : ℕ) (r : Refusal) → length bytes ≤ 134217728
    → told ls d c n (map card (input_records rest)) ≡ told [] None no_counts 1 (map card (input_records bytes)) → input_records rest ≡ line ∷ input_records others → columns ≡ card line
    → ((cards : List (List ℕ)) → Refuses (told ls d c n (columns ∷ cards)).fault r) → Refuses (read_deck_cards bytes).fault r
refused bytes rest line others columns ls d c n r size is first column stops =
    let here : told ls d c n (columns ∷ map card (input_records others)) ≡ told [] None no_counts 1 (map card (input_records bytes)) =
    ap (λ (x : List ℕ). told ls d c n (x ∷ map card (input_records others))) column ∙ ap (λ (l : List (List ℕ)). told ls d c n (map card l)) (sym first) ∙ is in
    let fault : (told ls d c n (columns ∷ map card (input_records others))).fault ≡ (read_deck_cards bytes).fault = ap (λ (t : Told). t.fault) here ∙ ap (λ (x : Reading). x.fault) (sym (not_too_long bytes size)) in
    subst (λ (f : Option Fault). Refuses f r) fault (stops (map card (input_records others)))
