use Rattle.tile_requests.proofs.Opening.{opens_asks, opens_forces, opens_gets}
use Rattle.tile_requests.proofs.request_events.events.Goals as goal

pub returns-in-Asks-clause-opens : goal.returns-in-Asks-clause-opens
returns-in-Asks-clause-opens g c = opens_asks _ _ _ _ (g.C.Keeper.state c.args.cabinet.now) c.args.address.now c.args.mode c.begin.result (g.C.Keeper.state c.begin.new.cabinet) c.in-Asks.is c.begin.ensures.begins

pub returns-in-Forces-clause-opens : goal.returns-in-Forces-clause-opens
returns-in-Forces-clause-opens g c = opens_forces _ _ _ _ (g.C.Keeper.state c.args.cabinet.now) c.args.address.now c.args.mode c.begin-in-Forces.result (g.C.Keeper.state c.begin-in-Forces.new.cabinet) c.in-Forces.is c.begin-in-Forces.ensures.begins

pub returns-in-Gets-clause-opens : goal.returns-in-Gets-clause-opens
returns-in-Gets-clause-opens g c =
    opens_gets _ _ _ _ _ _ _ _ _ (g.C.Keeper.state c.args.cabinet.now) (g.C.Keeper.state c.begin-asked.new.cabinet) (g.C.Keeper.state c.further-rendered.new.cabinet) (g.C.Keeper.state c.further.new.cabinet) c.args.address.now c.args.mode c.begin-asked.result c.further-rendered.result c.further.result c.in-Gets.is
    c.begin-asked.ensures.begins c.further-rendered.ensures.goes c.further-rendered.ensures.told c.further.ensures.goes
