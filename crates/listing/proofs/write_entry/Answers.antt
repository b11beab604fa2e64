use Rattle.listing.proofs.Laws.{put-there, put-nowhere}
use Rattle.listing.proofs.write_entry.Goals as goal

pub returns-then-entry_length-room : goal.returns-then-entry_length-room
returns-then-entry_length-room c =
    put-there _ c.args.answer _ c.args.m _ _ c.entry_length.ensures _ _ c.if-at-room.true c.if-entry_length-room.true c.new.ensures c.put.ensures

pub returns-else-entry_length-room : goal.returns-else-entry_length-room
returns-else-entry_length-room c = put-nowhere _ c.args.answer _ c.args.m _ _ c.entry_length.ensures c.if-at-room.true c.if-entry_length-room.false
