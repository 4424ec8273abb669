-- What is asked of the statements that routes become: a fact of each of them, and where they lead.
use Rattle.std.specs.Prelude.{ℕ, suc, ◌≤◌, ◌<◌, ⊤}
use Rattle.f66_tree.specs.Syntax.{Act, Assign, Goto, When, Invoke, Continue, Stop, Return, Format}
use Rattle.routes.specs.Routes.{Route, Plain, BreakIf, Break, Ring, Cycle, Block, InTurn, Labelled, Transfer, Routes, NoRoute, AndRoute}
use Rattle.routes.specs.Code.{transfer}

-- P holds of what each route says, whichever labels are made for it; jumps and CONTINUEs are not asked about
module _ (P : Act → Type 0) where
  abbrev mutual
    pub RouteActs : Route → Type 0
    RouteActs (Plain p a) = P a
    RouteActs (BreakIf p e k) = (l : ℕ) → P (When e (Goto l))
    RouteActs (Break p k) = ⊤
    RouteActs (Ring p rs) = AllActs rs
    RouteActs (Cycle p top rest) = AllActs top × AllActs rest
    RouteActs (Block rs) = AllActs rs
    RouteActs (InTurn rs) = AllActs rs
    RouteActs (Labelled m p r) = RouteActs r
    RouteActs (Transfer p way u fs es) = ((l : ℕ) → P (transfer way u l es)) × P (Format fs)

    pub AllActs : Routes → Type 0
    AllActs NoRoute = ⊤
    AllActs (AndRoute r rs) = RouteActs r × AllActs rs

-- a plain statement that names no label, or a GO TO whose label is given
abbrev pub ActLeads : Act → (ℕ → ℕ) → Type 0
ActLeads (Goto l) given = 1 ≤ given l
ActLeads (Assign x e) given = ⊤
ActLeads (Invoke x es) given = ⊤
ActLeads Continue given = ⊤
ActLeads (Stop n) given = ⊤
ActLeads Return given = ⊤
ActLeads _ given = ⊥

-- in so many rings each route leaves one of them, and each GO TO has a label that is given
abbrev mutual
  pub RouteLeads : Route → (ℕ → ℕ) → ℕ → Type 0
  RouteLeads (Plain p a) given depth = ActLeads a given
  RouteLeads (BreakIf p e k) given depth = k < depth
  RouteLeads (Break p k) given depth = k < depth
  RouteLeads (Ring p rs) given depth = Leads rs given (suc depth)
  RouteLeads (Cycle p top rest) given depth = Leads top given (suc depth) × Leads rest given (suc depth)
  RouteLeads (Block rs) given depth = Leads rs given depth
  RouteLeads (InTurn rs) given depth = Leads rs given depth
  RouteLeads (Labelled m p r) given depth = RouteLeads r given depth
  RouteLeads (Transfer p way u fs es) given depth = ⊤

  pub Leads : Routes → (ℕ → ℕ) → ℕ → Type 0
  Leads NoRoute given depth = ⊤
  Leads (AndRoute r rs) given depth = RouteLeads r given depth × Leads rs given depth
