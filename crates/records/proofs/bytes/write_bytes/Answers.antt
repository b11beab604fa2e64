-- `records::bytes::write_bytes` meets its contract: a place past the end stores nothing, and more bytes than there are is all of them.
-- Assumes nothing.
use mathlib.Core.Path.{sym}
use Prim.Native.Nat.{◌≤◌}
use native.Mathlib.Omega.{arith}
use lib.ListN.{length, take}
use Rattle.text.proofs.Stores.{sets-out}
use Rattle.records.specs.Bytes.{bytes_text}
use Rattle.records.proofs.bytes.write_bytes.Goals as goal

pub returns-then-buf-at : goal.returns-then-buf-at
returns-then-buf-at c =
    let past : length c.args.buf.now ≤ c.args.at = omega arith in
    sym (sets-out c.args.buf.now c.args.at (bytes_text (take c.args.count c.args.bytes)) past)
