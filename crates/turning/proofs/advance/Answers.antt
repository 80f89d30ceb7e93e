use Rattle.turning.proofs.Looking.{away-rest, done-rest, on-rest, over-rest, rest-ready, rest-turned, stands_by, stop-rest, stuck-rest, turned-quick}
use Rattle.turning.proofs.advance.Goals as goal

pub quick-requires : goal.quick-requires
quick-requires c =
    (c.requires.0, λ l. (stands_by _ _ _ _ _ c.requires.1 l).fit)

pub rest-requires : goal.rest-requires
rest-requires c =
    let z = rest-ready _ _ _ _ _ _ _ _ _ c.requires.1
    c.quick.ensures.0 c.in-Rest.is in
    (z.0, z.1, c.requires.2, z.2)

pub returns-in-On : goal.returns-in-On
returns-in-On c = (
  turned-quick _ _ _ _ _ _ _ _ _ _ c.requires.1 c.quick.ensures.0
      c.quick.ensures.1 c.in-On.is on-rest,
  c.requires.2,
)

pub returns-in-Over : goal.returns-in-Over
returns-in-Over c = (
  turned-quick _ _ _ _ _ _ _ _ _ _ c.requires.1 c.quick.ensures.0
      c.quick.ensures.1 c.in-Over.is (over-rest _),
  c.requires.2,
)

pub returns-in-Moved : goal.returns-in-Moved
returns-in-Moved c = (
  turned-quick _ _ _ _ _ _ _ _ _ _ c.requires.1 c.quick.ensures.0
      c.quick.ensures.1 c.in-Moved.is away-rest,
  c.requires.2,
)

pub returns-in-Done : goal.returns-in-Done
returns-in-Done c = (
  turned-quick _ _ _ _ _ _ _ _ _ _ c.requires.1 c.quick.ensures.0
      c.quick.ensures.1 c.in-Done.is done-rest,
  c.requires.2,
)

pub returns-in-Stuck : goal.returns-in-Stuck
returns-in-Stuck c = (
  turned-quick _ _ _ _ _ _ _ _ _ _ c.requires.1 c.quick.ensures.0
      c.quick.ensures.1 c.in-Stuck.is stuck-rest,
  c.requires.2,
)

pub returns-in-Stop : goal.returns-in-Stop
returns-in-Stop c = (
  turned-quick _ _ _ _ _ _ _ _ _ _ c.requires.1 c.quick.ensures.0
      c.quick.ensures.1 c.in-Stop.is (stop-rest _),
  c.requires.2,
)

pub returns-in-Rest : goal.returns-in-Rest
returns-in-Rest c = (
  rest-turned _ _ _ _ _ _ _ _ _ c.requires.1
      c.quick.ensures.0 c.in-Rest.is _ _ _ _ c.rest.ensures.0,
  c.rest.ensures.1,
)
