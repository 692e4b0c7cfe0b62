-- The sample blocks of this project: for each number of registers the texts of a description, a ports
-- file and a block. Register i stands at address 4 i; four kinds of registers follow each other.
use Rattle.std.specs.Prelude.{ℕ, zero, suc, ◌*◌, ◌%◌, List, [], ◌∷◌, ◌++◌, codes, fold}
use Rattle.std.specs.Fmt.{decimal}
use Rattle.sample_blocks.specs.declared.kind.Kind.{Kind}
use Rattle.sample_blocks.specs.declared.kind.Kind.TheVariants.{Storage, Status, Data, Pulse}
use Rattle.sample_blocks.specs.declared.section.Section.{Section}
use Rattle.sample_blocks.specs.declared.section.Section.TheVariants.{Description, Pins, Ports, Selects, Reads, Processes}

-- texts one after the other
abbrev pub joined : List (List ℕ) → List ℕ
joined texts = fold (λ text next. text ++ next) [] texts

-- the kind of a register, by its number modulo 4
abbrev pub kind_at : ℕ → Kind
kind_at zero = Storage
kind_at (suc zero) = Status
kind_at (suc (suc zero)) = Data
kind_at _ = Pulse

abbrev pub kind_of : ℕ → Kind
kind_of i = kind_at (i % 4)

-- ## The lines of register i, of number n, in each section

-- the properties of its field, and the field's name and width
abbrev pub field_of : Kind → List ℕ
field_of Storage = codes "sw=rw; hw=r; } f[8]"
field_of Status = codes "sw=rw; hw=r; onwrite=woclr; hwset; } f"
field_of Data = codes "sw=r; hw=w; we; onread=rclr; } f[8]"
field_of Pulse = codes "sw=rw; hw=r; singlepulse; } f"

abbrev pub description_line : List ℕ → List ℕ → List ℕ → List ℕ
description_line field n address = joined (codes " reg { field { " ∷ field ∷ codes " = 0; } r" ∷ n ∷ codes " @ " ∷ address ∷ codes ";\n" ∷ [])

-- in the ports file
abbrev pub pins_line : Kind → List ℕ → List ℕ
pins_line Storage n = joined (codes "out r" ∷ n ∷ codes ".f r" ∷ n ∷ codes "\n" ∷ [])
pins_line Status n = joined (codes "in r" ∷ n ∷ codes ".f->hwset s" ∷ n ∷ codes "\nout r" ∷ n ∷ codes ".f r" ∷ n ∷ codes "\n" ∷ [])
pins_line Data n = joined (codes "in r" ∷ n ∷ codes ".f d" ∷ n ∷ codes "\nin r" ∷ n ∷ codes ".f->we w" ∷ n ∷ codes "\n" ∷ [])
pins_line Pulse n = joined (codes "out r" ∷ n ∷ codes ".f r" ∷ n ∷ codes "\n" ∷ [])

-- among the block's ports
abbrev pub port_line : Kind → List ℕ → List ℕ
port_line Storage n = joined (codes ", output reg [7:0] r" ∷ n ∷ codes "\n" ∷ [])
port_line Status n = joined (codes ", input s" ∷ n ∷ codes ", output reg r" ∷ n ∷ codes "\n" ∷ [])
port_line Data n = joined (codes ", input w" ∷ n ∷ codes ", input [7:0] d" ∷ n ∷ codes ", output reg [7:0] r" ∷ n ∷ codes "\n" ∷ [])
port_line Pulse n = joined (codes ", output reg r" ∷ n ∷ codes "\n" ∷ [])

-- the wire that says that its address is accessed
abbrev pub select_line : List ℕ → List ℕ → List ℕ
select_line n address = joined (codes "wire at" ∷ n ∷ codes " = psel & penable & (paddr == 8'd" ∷ address ∷ codes ");\n" ∷ [])

-- its part of the read data
abbrev pub read_line : List ℕ → List ℕ
read_line n = joined (codes " | (at" ∷ n ∷ codes " ? r" ∷ n ∷ codes " : 32'd0)\n" ∷ [])

-- what it takes at a clock edge
abbrev pub taken_of : Kind → List ℕ → List ℕ
taken_of Storage n = joined (codes "if (at" ∷ n ∷ codes " & pwrite) r" ∷ n ∷ codes " <= pwdata[7:0];\n" ∷ [])
taken_of Status n = joined (codes "if (at" ∷ n ∷ codes " & pwrite) r" ∷ n ∷ codes " <= r" ∷ n ∷ codes " & ~pwdata[0]; else if (s" ∷ n ∷ codes ") r" ∷ n ∷ codes " <= 1'b1;\n" ∷ [])
taken_of Data n = joined (codes "if (at" ∷ n ∷ codes " & ~pwrite) r" ∷ n ∷ codes " <= 0; else if (w" ∷ n ∷ codes ") r" ∷ n ∷ codes " <= d" ∷ n ∷ codes ";\n" ∷ [])
taken_of Pulse n = joined (codes "r" ∷ n ∷ codes " <= at" ∷ n ∷ codes " & pwrite & pwdata[0];\n" ∷ [])

abbrev pub process_line : Kind → List ℕ → List ℕ
process_line kind n = joined (codes "always @(posedge clk or negedge rst_n) if (!rst_n) r" ∷ n ∷ codes " <= 0; else " ∷ taken_of kind n ∷ [])

abbrev pub section_line : Section → ℕ → List ℕ
section_line Description i = description_line (field_of (kind_of i)) (decimal i) (decimal (4 * i))
section_line Pins i = pins_line (kind_of i) (decimal i)
section_line Ports i = port_line (kind_of i) (decimal i)
section_line Selects i = select_line (decimal i) (decimal (4 * i))
section_line Reads i = read_line (decimal i)
section_line Processes i = process_line (kind_of i) (decimal i)

-- the lines of so many registers
abbrev pub section_of : Section → ℕ → List ℕ
section_of section zero = []
section_of section (suc i) = section_of section i ++ section_line section i

-- ## The three texts of a block of so many registers

abbrev pub description_text : ℕ → List ℕ
description_text count = joined (codes "addrmap s {\n" ∷ section_of Description count ∷ codes "};\n" ∷ [])

abbrev pub ports_text : ℕ → List ℕ
ports_text count = joined (
    codes "clock clk\nreset rst_n low 1\npsel psel\npenable penable\npwrite pwrite\npaddr paddr\npwdata pwdata\n"
    ∷ codes "prdata prdata\npready pready\npslverr pslverr\nwait 0\nunmapped zero\n"
    ∷ section_of Pins count ∷ [])

abbrev pub block_text : ℕ → List ℕ
block_text count = joined (
    codes "module s(input clk, input rst_n, input psel, input penable, input pwrite, input [7:0] paddr, "
    ∷ codes "input [31:0] pwdata, output [31:0] prdata, output pready, output pslverr\n"
    ∷ section_of Ports count
    ∷ codes ");\nassign pready = 1'b1;\nassign pslverr = 1'b0;\n"
    ∷ section_of Selects count
    ∷ codes "assign prdata = 32'd0\n"
    ∷ section_of Reads count
    ∷ codes ";\n"
    ∷ section_of Processes count
    ∷ codes "endmodule\n" ∷ [])
