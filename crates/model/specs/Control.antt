-- What a write to a PM1 control register does: BM_RLD, GBL_RLS, SLP_TYP, and "Sleep".
-- Throughout, b is true for block B and false for block A.
use Rattle.std.specs.Prelude.{Bool, true, false, not, cond, ◌&&◌, ◌||◌, Option, unwrap_or, ℕ, ◌/◌, ◌%◌, ◌^◌}
use Rattle.std.specs.Option.{is_none}
use Rattle.acpi.specs.Bits.{BM_RLD, GBL_RLS, SLP_TYPx, SLP_EN}
use Rattle.sleep.specs.Pairs.{state_of}
use Rattle.machine.specs.declared.Machine.{Machine}
use Rattle.machine.specs.Fields.{with_control}
use Rattle.machine.specs.Sleep.{completed}
use Rattle.registers.specs.Registers.{placed, control_in, has_pm1b_cnt, covers_low, covers_high, written_bit}
use Rattle.model.specs.declared.Register.{Register}
use Rattle.model.specs.declared.Register.TheVariants as register

-- the write covers the high byte, and sets SLP_EN
unfoldable pub sets_slp_en : ℕ → ℕ → ℕ → Bool
sets_slp_en width offset written = covers_high width offset && written_bit offset written SLP_EN

-- "10 to 12 SLP_TYP"
abbrev pub written_typ : ℕ → ℕ → ℕ
written_typ offset written = placed offset written / 2 ^ SLP_TYPx % 8

-- "any write covering a control high byte latches that block's SLP_TYP"; b is the block written, the second Bool the block whose SLP_TYP is asked for
unfoldable pub typ_after : Machine → Bool → Bool → ℕ → ℕ → ℕ → ℕ
typ_after m b true width offset written = cond (b && covers_high width offset) (written_typ offset written) m.slp_typ_b
typ_after m b false width offset written = cond (not b && covers_high width offset) (written_typ offset written) m.slp_typ_a

-- "With B absent, SLP_EN completes at A. Otherwise .. SLP_EN at B while armed completes."
unfoldable pub completes : Machine → Bool → ℕ → ℕ → ℕ → Bool
completes m b width offset written = sets_slp_en width offset written && cond (has_pm1b_cnt m.settings) (b && m.armed) (not b)

-- "SLP_EN at A arms, any such write without SLP_EN disarms"; completing disarms too, and SLP_EN at B unarmed leaves it so
unfoldable pub armed_after : Machine → Bool → ℕ → ℕ → ℕ → Bool
armed_after m b width offset written =
    cond (covers_high width offset) (written_bit offset written SLP_EN && (has_pm1b_cnt m.settings && not b)) m.armed

-- "The pair names the state": A's latched type and B's, with what this write latches
abbrev pub named_state : Machine → Bool → ℕ → ℕ → ℕ → Option ℕ
named_state m b width offset written =
    state_of (has_pm1b_cnt m.settings) (typ_after m b false width offset written) (typ_after m b true width offset written) m.settings.sleep.pairs

-- the state that a sleep-completing write enters: where none is named it is 0, and no rule looks at it, since 27 is given first
abbrev pub entered_state : Machine → Bool → ℕ → ℕ → ℕ → ℕ
entered_state m b width offset written = unwrap_or (named_state m b width offset written) 0

-- 27: "a sleep-completing write matches none of S1 to S5"
unfoldable pub names_none : Machine → Register → ℕ → ℕ → ℕ → Bool
names_none m register.SmiCmd width offset written = false
names_none m (register.Pm1Evt b) width offset written = false
names_none m (register.Pm1Cnt b) width offset written = completes m b width offset written && is_none (named_state m b width offset written)
names_none m register.Pm2Cnt width offset written = false
names_none m register.PmTmr width offset written = false
names_none m (register.Gpe b) width offset written = false
names_none m register.Nowhere width offset written = false

-- "1 BM_RLD", in its home
unfoldable pub bm_rld_after : Machine → Bool → ℕ → ℕ → Bool
bm_rld_after m b offset written =
    cond (covers_low offset && control_in m.settings b BM_RLD) (written_bit offset written BM_RLD) m.bm_rld

-- "2 GBL_RLS (writing one raises the release flag ..)", in its home
unfoldable pub gbl_rls_after : Machine → Bool → ℕ → ℕ → Bool
gbl_rls_after m b offset written =
    m.gbl_rls || (covers_low offset && (control_in m.settings b GBL_RLS && written_bit offset written GBL_RLS))

-- the cells after a control write, before any sleep; "0 SCI_EN (writes ignored)": it is none of them
abbrev pub controlled : Machine → Bool → ℕ → ℕ → ℕ → Machine
controlled m b width offset written =
    with_control m (bm_rld_after m b offset written) (gbl_rls_after m b offset written)
    (typ_after m b false width offset written) (typ_after m b true width offset written) (armed_after m b width offset written)

-- what the write does, with the sleep that it completes
abbrev pub control_written : Machine → Bool → ℕ → ℕ → ℕ → Machine
control_written m b width offset written =
    cond (completes m b width offset written)
    (completed (controlled m b width offset written) (entered_state m b width offset written))
    (controlled m b width offset written)
