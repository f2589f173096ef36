pub mod LunarDays
