mod Decisions
