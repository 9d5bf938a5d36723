-- The text of a bus: how many devices it has, the addresses that are ignored, and for each device its
-- keys and a table of its commands.
use Rattle.std.specs.Prelude.{ℕ, ◌+◌, ◌-◌, ◌*◌, Bool, true, false, not, ◌&&◌, if◌then◌else◌, Option, Some, None, List, []}
use Rattle.std.specs.Prelude.{◌∷◌, ◌++◌, bytes_eq, codes, decimal, length, nat_eq, replicate, slice_index}
use Rattle.std.specs.List.{flat_map, list_all, list_any, range_with_len}
use Rattle.std.specs.Option.{is_some}
use Rattle.pmb_command.specs.declared.entry.Kind.{Kind}
use Rattle.pmb_command.specs.declared.entry.Kind.TheVariants.{Raw, Number, Vout, VoutSigned, Status, Text}
use Rattle.pmb_command.specs.declared.form.Form.{Form}
use Rattle.pmb_command.specs.Entry.{EntryParts}
use Rattle.pmb_command.specs.Fitting.{register_form}
use Rattle.pmb_command.specs.Parts.{CommandParts, DeviceParts, NamedBit, VidParts, OfPages, OfTypes, all_same}
use Rattle.pmb_command.specs.Units.{standard_unit}
use Rattle.pmb_registers.specs.State.{first_bytes, first_mode}
use Rattle.pmb_profile_text.specs.Words.{addresses_word, bytes_word, digits, form_word, kind_word, mode_words}
use Rattle.pmb_profile_text.specs.Words.{page_word, paged_word, pec_word, type_word, vout_direct_word}
use Rattle.pmb_value.specs.declared.number_format.NumberFormat.{NumberFormat}
use Rattle.pmb_value.specs.declared.number_format.NumberFormat.TheVariants as formats
use Rattle.pmb_vid.specs.Names.{same_table, table_name}
use Rattle.pmb_vid.specs.declared.table.VidTable.{VidTable}

-- ---- rows

abbrev pub space : ℕ
space = slice_index (codes " ") 0

-- a text at the left of a column of that width
abbrev pub cell : ℕ → List ℕ → List ℕ
cell width text = text ++ replicate (width - length text) space

-- the cells of a row before its last column
pub record Cells : Type 0 where
  pub code : List ℕ
  pub name : List ℕ
  pub write : List ℕ
  pub read : List ℕ
  pub call : List ℕ
  pub paged : List ℕ
  pub kind : List ℕ

abbrev pub cells_text : Cells → List ℕ
cells_text c =
    cell 5 c.code ++ (cell 33 c.name ++ (cell 6 c.write ++ (cell 6 c.read ++ (cell 6 c.call
    ++ (cell 6 c.paged ++ cell 26 c.kind)))))

-- the row that names the columns
abbrev pub heading : List ℕ
heading = cells_text (record {
  code = codes "code";
  name = codes "name";
  write = codes "write";
  read = codes "read";
  call = codes "call";
  paged = codes "paged";
  kind = codes "kind";
}) ++ codes "at first\n"

-- ---- commands

-- the cells of a command before its last column
abbrev pub command_cells : CommandParts → List ℕ
command_cells command = cells_text (record {
  code = digits command.entry.code;
  name = command.entry.name;
  write = form_word command.entry.shape.write;
  read = form_word command.entry.shape.read;
  call = form_word command.entry.shape.call;
  paged = paged_word command.entry.paged;
  kind = kind_word command.entry.kind;
})

-- what a command's register holds at first on a page, of its form; a hyphen where it has no register
abbrev pub first_word : DeviceParts → ℕ → CommandParts → Option Form → List ℕ
first_word device page command None = codes "-"
first_word device page command (Some form) = bytes_word (first_bytes device page command form)

-- the row of a command of a device, whose last column is what it holds at first
abbrev pub command_row : DeviceParts → CommandParts → List ℕ
command_row device command =
    command_cells command ++ (first_word device 0 command (register_form command.entry.shape) ++ codes "\n")

-- the cells of a page's row: those of the command in the row of page 0, and blank ones in the others
abbrev pub page_cells : CommandParts → ℕ → List ℕ
page_cells command page = if nat_eq page 0 then command_cells command else replicate 88 space

-- the row of a page, whose last column is what the command holds there at first
abbrev pub page_row : DeviceParts → CommandParts → ℕ → List ℕ
page_row device command page =
    page_cells command page
    ++ (page_word page ++ (first_word device page command (register_form command.entry.shape) ++ codes "\n"))

-- some page of the device begins otherwise than page 0
abbrev pub pages_differ : DeviceParts → CommandParts → Form → Bool
pages_differ device command form =
    list_any (λ page. not (bytes_eq (first_bytes device page command form) (first_bytes device 0 command form)))
    (range_with_len 0 device.pages)

-- whether a command has a register for each page, and they don't all begin alike
abbrev pub begins_by_page : DeviceParts → CommandParts → Option Form → Bool
begins_by_page device command None = false
begins_by_page device command (Some form) = command.entry.paged && pages_differ device command form

-- the rows of a command: one for each page where it begins by page, and else one
abbrev pub command_rows : DeviceParts → CommandParts → List ℕ
command_rows device command =
    if begins_by_page device command (register_form command.entry.shape)
    then flat_map (page_row device command) (range_with_len 0 device.pages)
    else command_row device command

-- ---- what the data of a command mean

-- a line under the kind of a command
abbrev pub note_line : List ℕ → List ℕ
note_line text = replicate 62 space ++ (text ++ codes "\n")

-- whether the standard has this unit
abbrev pub is_unit_of : List ℕ → Option (List ℕ) → Bool
is_unit_of unit None = false
is_unit_of unit (Some other) = bytes_eq unit other

-- the formats in which a standard command keeps the standard's unit
abbrev pub keeps_format : NumberFormat → Bool
keeps_format formats.Linear11 = true
keeps_format (formats.Linear11Fixed exponent) = true
keeps_format (formats.Word format) = false
keeps_format formats.Half = false
keeps_format (formats.Vid table) = false

-- the kinds with which it keeps it
abbrev pub keeps_unit : Kind → Bool
keeps_unit Raw = false
keeps_unit (Number format) = keeps_format format
keeps_unit Vout = true
keeps_unit VoutSigned = true
keeps_unit Status = false
keeps_unit Text = false

-- whether a command of this code and kind may have the unit without the key
abbrev pub has_unit : EntryParts → List ℕ → Bool
has_unit e unit = keeps_unit e.kind && is_unit_of unit (standard_unit e.code)

-- the unit of numbers, unless a command of this code and kind may have it without the key
abbrev pub unit_line : EntryParts → Option (List ℕ) → List ℕ
unit_line e None = []
unit_line e (Some unit) = if has_unit e unit then [] else note_line (codes "unit " ++ unit)

-- a bit of a status register, and the name that the profile gives it
abbrev pub bit_line : NamedBit → List ℕ
bit_line b = note_line (codes "bit " ++ (decimal b.bit ++ (codes ": " ++ b.name)))

-- that the profile says that there is a value for each phase
abbrev pub phased_line : Bool → List ℕ
phased_line true = note_line (codes "phased")
phased_line false = []

-- the lines of what the profile says of the data of a command
abbrev pub meaning_lines : CommandParts → List ℕ
meaning_lines command =
    unit_line command.entry command.unit
    ++ (flat_map bit_line command.bits ++ phased_line command.phased)

-- the rows of a command and these lines
abbrev pub command_text : DeviceParts → CommandParts → List ℕ
command_text device command = command_rows device command ++ meaning_lines command

-- ---- devices

-- a line of a key and its value
abbrev pub field : List ℕ → List ℕ → List ℕ
field key value = cell 12 key ++ (value ++ codes "\n")

-- An address of 7 bits, and the bytes in which the direction follows it (SMBus 3.0 section
-- 6.4).
abbrev pub address_text : ℕ → List ℕ
address_text address = digits address ++ (codes ", as a byte "
    ++ (digits (2 * address) ++ (codes " to write and " ++ (digits (2 * address + 1) ++ codes " to read"))))

-- the name of a device, where it has one
abbrev pub name_line : Option (List ℕ) → List ℕ
name_line None = []
name_line (Some name) = field (codes "name") name

-- the first keys of a device that has a place in the profile
abbrev pub device_head : ℕ → DeviceParts → List ℕ
device_head place device =
    codes "\n" ++ (field (codes "device") (decimal place)
    ++ (name_line device.name
    ++ (field (codes "address") (address_text device.address)
    ++ (field (codes "pec") (pec_word device.pec)
    ++ field (codes "pages") (decimal device.pages)))))

-- a VOUT_MODE, and the format that it gives output voltages
abbrev pub mode_text : DeviceParts → ℕ → List ℕ
mode_text device mode = digits mode ++ (codes ", " ++ mode_words device mode)

-- the line of VOUT_MODE where all pages begin with one
abbrev pub one_mode : DeviceParts → List ℕ
one_mode device = field (codes "vout_mode") (mode_text device (first_mode device 0))

-- the key of a page's line, which only that of page 0 has
abbrev pub mode_key : ℕ → List ℕ
mode_key page = if nat_eq page 0 then codes "vout_mode" else []

-- the line of a page's VOUT_MODE
abbrev pub mode_line : DeviceParts → ℕ → List ℕ
mode_line device page =
    field (mode_key page) (page_word page ++ mode_text device (first_mode device page))

-- the lines of VOUT_MODE at first: one for each page where they differ
abbrev pub mode_lines : DeviceParts → List ℕ
mode_lines device =
    if all_same device.modes then one_mode device else flat_map (mode_line device) (range_with_len 0 device.pages)

-- The lines of the VID tables of pages, from a page on. The key stands in the first line alone.
abbrev pub page_lines : List ℕ → ℕ → List VidTable → List ℕ
page_lines key page [] = []
page_lines key page (table ∷ tables) =
    field key (page_word page ++ table_name table) ++ page_lines [] (page + 1) tables

-- those of a device: one where all pages have one table
abbrev pub page_tables : List VidTable → List ℕ
page_tables [] = []
page_tables (table ∷ tables) =
    if list_all (same_table table) tables then field (codes "vid") (table_name table)
    else page_lines (codes "vid") 0 (table ∷ tables)

-- The lines of the types that have a VID table, from a type on. The key stands in the first line alone.
abbrev pub type_lines : List ℕ → ℕ → List (Option VidTable) → List ℕ
type_lines key number [] = []
type_lines key number (None ∷ tables) = type_lines key (number + 1) tables
type_lines key number (Some table ∷ tables) =
    field key (type_word number ++ table_name table) ++ type_lines [] (number + 1) tables

-- those of a device, or that no type has a table
abbrev pub type_tables : List (Option VidTable) → List ℕ
type_tables tables =
    if list_any is_some tables then type_lines (codes "vid") 0 tables
    else field (codes "vid") (codes "no types")

-- the lines of a device's VID tables, where the profile tells them
abbrev pub vid_lines : Option VidParts → List ℕ
vid_lines None = []
vid_lines (Some (OfPages tables)) = page_tables tables
vid_lines (Some (OfTypes tables)) = type_tables tables

-- the number of phases, where the profile tells it
abbrev pub phases_line : Option ℕ → List ℕ
phases_line None = []
phases_line (Some phases) = field (codes "phases") (decimal phases)

-- that it keeps to WRITE_PROTECT, where it does
abbrev pub protect_line : Bool → List ℕ
protect_line false = []
protect_line true = field (codes "protect") (codes "yes")

-- the other addresses at which its part takes what is written, where there are some
abbrev pub also_line : List ℕ → List ℕ
also_line [] = []
also_line (address ∷ addresses) = field (codes "also") (addresses_word (address ∷ addresses))

-- the last keys of a device
abbrev pub device_end : DeviceParts → List ℕ
device_end device =
    field (codes "vout_direct") (vout_direct_word device.vout_direct)
    ++ (vid_lines device.vid
    ++ (phases_line device.phases
    ++ (protect_line device.protect
    ++ (also_line device.also
    ++ field (codes "commands") (decimal (length device.commands))))))

-- the keys of a device
abbrev pub device_keys : ℕ → DeviceParts → List ℕ
device_keys place device = device_head place device ++ (mode_lines device ++ device_end device)

-- the table of its commands
abbrev pub command_table : DeviceParts → List CommandParts → List ℕ
command_table device commands = flat_map (command_text device) commands

abbrev pub device_text : ℕ → DeviceParts → List ℕ
device_text place device = device_keys place device ++ (heading ++ command_table device device.commands)

-- devices, the first of which has this place
abbrev pub devices_text : ℕ → List DeviceParts → List ℕ
devices_text place [] = []
devices_text place (device ∷ devices) = device_text place device ++ devices_text (place + 1) devices

-- the addresses that speak no PMBus, where the profile has the key
abbrev pub ignore_line : Option (List ℕ) → List ℕ
ignore_line None = []
ignore_line (Some addresses) = field (codes "ignore") (addresses_word addresses)

-- how many devices there are, and what is ignored
abbrev pub bus_head : Option (List ℕ) → List DeviceParts → List ℕ
bus_head ignored bus = field (codes "devices") (decimal (length bus)) ++ ignore_line ignored

-- The text of a bus.
abbrev pub bus_text : Option (List ℕ) → List DeviceParts → List ℕ
bus_text ignored bus = bus_head ignored bus ++ devices_text 0 bus
