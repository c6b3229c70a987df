use Rattle.std.proofs.Common.{length, ◌≤◌, arith, length-take}
use Rattle.tcp_lanes.proofs.Messages.{never_refused, held_outline, outline_of_head, none_whole, can_be_whole, whole}
use Rattle.tcp_lanes.proofs.message_ends.end_behind.Goals as goal

pub returns-in-Err : goal.returns-in-Err
returns-in-Err c =
    let is = c.requires.is in
    never_refused c.args.held.now _ c.args.headers.now _ c.args.spans.now is.0 _ c.requires.room is.1 c.requires.within c.front_of-first.ensures c.split_at.ensures.front c.in-Err.ensures

pub returns-then-end-held : goal.returns-then-end-held
returns-then-end-held c =
    let is = c.requires.is in
    let fits : c.args.spans.now.len ≤ length c.args.held.now = omega (arith, length-take 16384 c.args.held.now, c.requires.within.section.len_fits) in
    let outline = held_outline c.args.held.now _ c.args.headers.now _ c.args.spans.now is.0 c.in-Ok.size c.requires.room is.1 c.requires.within c.front_of-first.ensures c.split_at.ensures.front c.in-Ok.ensures fits in
    let message = whole c.args.held.now (outline_of_head is.0 c.args.spans.now.len c.in-Ok.size) outline c.if-end-held.true in
    (c.if-end-held.true, message.0, message.1)

pub returns-else-end-held : goal.returns-else-end-held
returns-else-end-held c =
    let is = c.requires.is in
    let fits : c.args.spans.now.len ≤ length c.args.held.now = omega (arith, length-take 16384 c.args.held.now, c.requires.within.section.len_fits) in
    let outline = held_outline c.args.held.now _ c.args.headers.now _ c.args.spans.now is.0 c.in-Ok.size c.requires.room is.1 c.requires.within c.front_of-first.ensures c.split_at.ensures.front c.in-Ok.ensures fits in
    let o = outline_of_head is.0 c.args.spans.now.len c.in-Ok.size in
    record { short = c.if-end-held.false; none = none_whole c.args.held.now o outline; some = can_be_whole c.args.held.now o outline c.if-end-held.false }
