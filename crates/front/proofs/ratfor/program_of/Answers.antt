-- Why `program_of` keeps its clauses. The laws of the parser's limits speak of what the table accepts.
use Rattle.rat_tree.specs.Views.{program_of}
use Rattle.front.proofs.Ending.{ends}
use Rattle.front.proofs.ratfor.program_of.Goals as goal

pub parse-requires : goal.parse-requires
parse-requires c = ends c.args.tokens.items c.requires.ends

pub made_of-requires-clause-room : goal.made_of-requires-clause-room
made_of-requires-clause-room c =
    let ts = c.args.tokens.items in
    let tree = program_of c.in_ok-program.program in
    c.parsed_has_room.ensures ts tree ((c.answers_are_published.ensures.accepted ts tree).1 c.in_ok-program.ensures)

pub made_of-requires-clause-few : goal.made_of-requires-clause-few
made_of-requires-clause-few c =
    let ts = c.args.tokens.items in
    let tree = program_of c.in_ok-program.program in
    c.parsed_has_few_units.ensures ts tree ((c.answers_are_published.ensures.accepted ts tree).1 c.in_ok-program.ensures)

pub made_of-requires-clause-passes : goal.made_of-requires-clause-passes
made_of-requires-clause-passes c = λ made some serve.
    let ts = c.args.tokens.items in
    let tree = program_of c.in_ok-program.program in
    c.serving_units_pass_no_limit.ensures ts tree made ((c.answers_are_published.ensures.accepted ts tree).1 c.in_ok-program.ensures) c.requires.few some serve
