-- The calls that requests ask for.
use Rattle.std.specs.Prelude.{List, map}
use Rattle.sheet.specs.Book.{Call, enter_task, enter_need, drop_need, retime_task}
use Rattle.sheet.specs.Lives.{Life}
use Rattle.sheet.specs.declared.request.Request.{Request}
use Rattle.sheet.specs.declared.request.Request.TheVariants as requests

abbrev pub asked : Request → Call
asked (requests.Enter n t) = enter_task n.now t
asked (requests.Need a b) = enter_need a.now b.now
asked (requests.Drop a b) = drop_need a.now b.now
asked (requests.Retime n t) = retime_task n.now t

abbrev pub life_of : List Request → Life
life_of rs = map asked rs
