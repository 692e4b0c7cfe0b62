-- The optional lines of the bus, PSTRB and PPROT (AMBA APB, signal descriptions).
use Rattle.std.specs.Prelude.{◌≡◌, ℕ, ◌-◌, ◌^◌, ◌⊎◌, if◌then◌else◌}
use Rattle.apb_rules.specs.declared.style.BusStyle.{BusStyle}

-- a data bus is 8, 16 or 32 bits wide
abbrev pub IsBusBytes : ℕ → Type 0
IsBusBytes bytes = (bytes ≡ 1) ⊎ (bytes ≡ 2) ⊎ (bytes ≡ 4)

-- the strobe with the bit of each byte 1
abbrev pub all_bytes : ℕ → ℕ
all_bytes bytes = 2 ^ bytes - 1

-- the strobe that counts where a master has this one to give: without PSTRB each byte is written
abbrev pub strobe_line : BusStyle → ℕ → ℕ → ℕ
strobe_line style bytes strobe = if style.strobe then strobe else all_bytes bytes

-- the protection that counts where a master has this one to give: without PPROT it is 0
abbrev pub prot_line : BusStyle → ℕ → ℕ
prot_line style prot = if style.prot then prot else 0
